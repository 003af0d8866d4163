pub mod RecordFacts
