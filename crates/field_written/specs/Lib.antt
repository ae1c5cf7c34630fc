pub mod Numeral
pub mod Written
pub mod LogicalField
pub mod TextField
pub mod Promises
