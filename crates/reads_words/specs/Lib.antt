pub mod Capacity
pub mod TagSets
pub mod Words
pub mod Inner
