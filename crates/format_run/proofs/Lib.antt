pub mod FirstLaws
pub mod Views
pub mod Adding
pub mod Repeating
pub mod Backs
pub mod Unrolling
