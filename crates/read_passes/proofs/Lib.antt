pub mod GivenLaws
pub mod GatheredLaws
pub mod OrderLaws
pub mod FindLaws
pub mod PassLaws
pub mod GiveLaws
pub mod SettingLaws
