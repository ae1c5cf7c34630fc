pub mod Steps
pub mod Whole
