pub mod Keys
pub mod Headers
pub mod PacketLines
pub mod Grammar
pub mod Inner
pub mod Cases
