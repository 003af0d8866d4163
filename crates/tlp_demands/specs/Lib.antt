pub mod Demand1
pub mod RoundTrips
pub mod PacketRecords
pub mod ExportedCalls
