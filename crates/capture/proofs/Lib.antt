pub mod PacketLineLaws
pub mod LineParts
pub mod PacketBytes
pub mod Grammar
