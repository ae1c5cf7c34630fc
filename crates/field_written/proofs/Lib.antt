pub mod Fewest
pub mod Cases
pub mod Answer
pub mod Letters
pub mod Promises
