mod BitLaws
pub mod SetLaws
pub mod OrderLaws
pub mod LowestLaws
pub mod WordLaws
mod Returns
