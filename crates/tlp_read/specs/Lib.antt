pub mod Fields
pub mod Read
pub mod Completions
pub mod Cases
pub mod Inner
