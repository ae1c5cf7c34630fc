pub mod FieldBack
pub mod Gathering
pub mod Placed
pub mod Rows
pub mod DemandThree
