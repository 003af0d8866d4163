pub mod FieldReturns
pub mod ReadReturns
pub mod PayloadReturns
pub mod CompletionLaws
pub mod NumberLaws
