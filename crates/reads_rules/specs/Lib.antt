pub mod Requests
pub mod Windows
pub mod Validity
pub mod States
pub mod Pieces
pub mod Continuations
pub mod Inner
