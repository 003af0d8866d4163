pub mod Fits
pub mod WordScans
