pub mod ItemsChecked
pub mod Lent
pub mod Loaded
