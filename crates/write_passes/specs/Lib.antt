pub mod Placed
pub mod Passes
