pub mod Read
pub mod LogicalRead
pub mod TextRead
pub mod Promises
pub mod Steps
