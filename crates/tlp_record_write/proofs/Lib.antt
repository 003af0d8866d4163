pub mod Kept
pub mod Writable
pub mod Families
pub mod KindHeadLaws
pub mod RecordWriteLaws
