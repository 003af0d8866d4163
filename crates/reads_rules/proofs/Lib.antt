pub mod RequestLaws
mod ContinuationLaws
