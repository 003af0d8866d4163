-- What packets are as records and back: two theorems, proved in proofs/PacketRecords.antt.
use Rattle.std.specs.Prelude.{ℕ, ◌≡◌, true, List, Ok}
use Rattle.bits.specs.Word.{Bytes}
use Rattle.tlp.specs.Rows.{NoneHold}
use Rattle.tlp.specs.declared.settings.Settings.{Settings}
use Rattle.tlp.specs.declared.packet.Packet.{Packet}
use Rattle.tlp_read.specs.Read.{read_packet}
use Rattle.tlp_record.specs.Record.{record_of, record_packet, is_record}
use Rattle.tlp_writable.specs.Given.{given_rows}

-- a packet has a record, and is the packet of it
pub record HasRecord (p : Packet) : Type 0 where
  pub packet : record_packet (record_of p) ≡ p
  pub as_record : is_record (record_of p) ≡ true

-- Every packet that the writer's first 6 lets pass has a record. Of others some have none: a requester ID over 16 bits
-- would be cut to two bytes.
abbrev pub RecordOfWritable : Type 0
RecordOfWritable = (p : Packet) → NoneHold (given_rows p) → HasRecord p

-- So has every packet that was read: what the reader hands out can be handed back to the writer as it is.
abbrev pub RecordOfRead : Type 0
RecordOfRead =
    (settings : Settings) (packet : List ℕ) (p : Packet)
    → Bytes packet
    → read_packet settings packet ≡ Ok p
    → HasRecord p
