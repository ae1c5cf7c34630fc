pub mod Blanks
pub mod Running
pub mod Numbers
pub mod Cases
pub mod NumberReads
pub mod LetterReads
pub mod Promises
