pub mod PacketTypes
pub mod Contents
