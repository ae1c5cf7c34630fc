pub mod LineLaws
pub mod DigitReads
pub mod ElementLaws
pub mod ReadLaws
pub mod Longest
pub mod ElementWords
pub mod CutLines
