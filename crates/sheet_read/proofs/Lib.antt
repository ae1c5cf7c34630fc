pub mod ReadLaws
pub mod Calls
pub mod Answering
pub mod Accepted
pub mod Promises
pub mod Whole
