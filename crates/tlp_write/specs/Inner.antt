pub mod Padded
pub mod Head
pub mod Lay
