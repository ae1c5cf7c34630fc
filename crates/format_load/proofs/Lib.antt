pub mod ItemRows
pub mod LoadLaws
