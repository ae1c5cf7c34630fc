pub mod Given
pub mod Passes
pub mod Promises
