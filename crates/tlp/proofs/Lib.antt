pub mod RowLaws
pub mod RefusalLaws
pub mod Bounds
pub mod FmtLaws
pub mod FamilyLaws
pub mod SettingLaws
