pub mod FromListText
pub mod Input
pub mod Output
pub mod SheetOutput
pub mod Promises
