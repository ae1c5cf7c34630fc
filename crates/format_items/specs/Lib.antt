pub mod Items
pub mod Ranges
pub mod Size
pub mod Met
pub mod MetRanges
pub mod Refusals
pub mod Promises
