pub mod PlacedLaws
pub mod PutLaws
pub mod CheckLaws
pub mod LayLaws
