pub mod RowLaws
pub mod Loads
