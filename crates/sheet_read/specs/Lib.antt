pub mod Reading
pub mod Parts
pub mod Promises
