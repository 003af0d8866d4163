pub mod FrontLaws
pub mod RoomLaws
pub mod PacketReadLaws
