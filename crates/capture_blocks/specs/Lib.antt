pub mod Blocks
pub mod EveryCutting
pub mod Answers
pub mod Inner
