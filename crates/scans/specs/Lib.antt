pub mod Merges
pub mod Belows
