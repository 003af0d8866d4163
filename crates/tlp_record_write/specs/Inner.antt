pub mod Fit
pub mod Shared
pub mod Kinds
pub mod KindHead
