pub mod DecimalDigits
pub mod LineLaws
pub mod RecordLaws
pub mod TextLaws
pub mod PutLaws
pub mod WidthLaws
pub mod SheetLaws
pub mod Unread
