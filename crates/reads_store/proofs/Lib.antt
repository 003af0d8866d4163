mod EnabledRuns
mod Returns
pub mod StoreLaws
