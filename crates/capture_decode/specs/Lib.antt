pub mod Decode
pub mod PacketReads
pub mod Printed
pub mod Cases
