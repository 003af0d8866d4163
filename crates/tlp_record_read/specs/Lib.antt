pub mod RecordRead
pub mod Inner
