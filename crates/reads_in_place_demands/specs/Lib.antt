pub mod LentRuns
pub mod LentDemand3
pub mod LentInstance
