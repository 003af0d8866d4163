pub mod Places
pub mod Record
pub mod RecordFacts
