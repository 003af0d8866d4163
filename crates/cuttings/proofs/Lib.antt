pub mod Rows
pub mod ByRow
