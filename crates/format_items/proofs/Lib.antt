pub mod ItemLaws
pub mod RangeLaws
pub mod MetLaws
pub mod MetWithinLaws
