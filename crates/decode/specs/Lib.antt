pub mod Turns
pub mod PrintsDecoding
pub mod Inner
