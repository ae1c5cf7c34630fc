pub mod Lines
pub mod ElementLines
pub mod ListText
pub mod Promises
pub mod Steps
