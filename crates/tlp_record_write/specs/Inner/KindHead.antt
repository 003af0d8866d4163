-- For the contracts of kind_head.rt: what a record's kind decides of the packet that it describes.
use Rattle.std.specs.Prelude.{ℕ, ◌≡◌, ◌≤◌, true, false, List, eqb, Option, Some, None}
use Rattle.bits.specs.Choice.{pick}
use Rattle.bits.specs.Word.{byte, word}
use Rattle.tlp.specs.Rows.{Row, first}
use Rattle.tlp.specs.Refusals.{checked}
use Rattle.tlp.specs.PacketTypes.{family_of}
use Rattle.tlp.specs.Contents.{fault_rows}
use Rattle.tlp.specs.Packets.{memory_form, type_of, access_of}
use Rattle.tlp.specs.declared.packet_type.PacketType.{PacketType}
use Rattle.tlp.specs.declared.packet_type.PacketType.TheVariants.{MRd32, MRd64, MWr32, MWr64, CfgRd0, CfgWr0, CfgRd1, CfgWr1}
use Rattle.tlp_write.specs.Layout.{routing_in, own_bytes}
use Rattle.tlp_write.specs.Inner.Padded.{padded}
use Rattle.tlp_write.specs.Inner.Head.{word_bytes, IsHead}
use Rattle.tlp_write.specs.declared.head.Head.{Head}
use Rattle.tlp_record.specs.Places.{kind_place, length_place}
use Rattle.tlp_record.specs.Record.{record_packet}
use Rattle.tlp_record_write.specs.Inner.Fit.{writable}
use Rattle.tlp_record_write.specs.Inner.Shared.{shared_fits}
use Rattle.tlp_record_write.specs.declared.kind_head.KindHead.{KindHead}

-- types by a record's kind
abbrev pub memory_type : ℕ → ℕ → PacketType
memory_type n a = pick (eqb n 1) (memory_form a MRd32 MRd64) (memory_form a MWr32 MWr64)

abbrev pub config_type : ℕ → PacketType
config_type n = pick (eqb n 5) CfgRd0 (pick (eqb n 6) CfgWr0 (pick (eqb n 7) CfgRd1 CfgWr1))

-- a message's routing by the case of a record's route
abbrev pub case_routing : ℕ → ℕ
case_routing n = pick (eqb n 1) 2 (pick (eqb n 2) 0 (pick (eqb n 3) 3 (pick (eqb n 4) 4 (pick (eqb n 5) 5 1))))

-- a record whose shared part fits, of a kind from low to high
pub record KindCase (low high : ℕ) (fields : List ℕ) : Type 0 where
  pub shared : shared_fits fields ≡ true
  pub from : low ≤ byte fields kind_place
  pub upto : byte fields kind_place ≤ high

-- the rows 6 to 8 of the record's packet; AT is written 0
abbrev pub record_faults : List ℕ → List Row
record_faults fields =
    fault_rows (family_of (type_of (record_packet fields))) (access_of (record_packet fields)) (record_packet fields).traffic_class (record_packet fields).attributes 0

-- k is that part of the head of the record's packet
pub record IsKindHead (k : KindHead) (fields : List ℕ) : Type 0 where
  pub type_is : k.packet_type ≡ type_of (record_packet fields)
  pub routing_is : k.routing ≡ routing_in (record_packet fields).route (record_packet fields).kind
  pub fault_is : k.fault ≡ checked (first (record_faults fields))
  pub words_are : word_bytes k.words ≡ padded 12 (own_bytes (record_packet fields).route (record_packet fields).kind)
  pub length_is : word 4 fields length_place ≡ (access_of (record_packet fields)).length

-- that part of the head where the record can be written, and none where it cannot
abbrev pub JudgedHead : Option KindHead → List ℕ → Type 0
JudgedHead None fields = writable fields ≡ false
JudgedHead (Some k) fields = (writable fields ≡ true) × IsKindHead k fields

-- the whole head in the same way
abbrev pub RecordHead : Option Head → List ℕ → Type 0
RecordHead None fields = writable fields ≡ false
RecordHead (Some h) fields = (writable fields ≡ true) × IsHead h (record_packet fields)
