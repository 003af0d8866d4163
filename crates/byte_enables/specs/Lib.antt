pub mod Enables
pub mod Cases
