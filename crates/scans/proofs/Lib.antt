pub mod MergeSteps
pub mod MergeLaws
pub mod BelowLaws
