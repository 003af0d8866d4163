pub mod Words
pub mod Outputs
pub mod Inner
