pub mod Characters
pub mod Grammar
pub mod Reading
pub mod Check
pub mod Promises
