pub mod RecordWrite
pub mod Inner
