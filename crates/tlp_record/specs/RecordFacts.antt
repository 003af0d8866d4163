-- What holds of every packet record: theorems, proved in proofs/RecordFacts.antt.
use Rattle.std.specs.Prelude.{ℕ, ◌≤◌, ◌≡◌, true, List, length}
use Rattle.bits.specs.Word.{byte}
use Rattle.tlp_record.specs.Places.{record_size, kind_place}
use Rattle.tlp_record.specs.Record.{record_of, record_packet, is_record}

-- A record is that of the packet that it describes.
abbrev pub RecordBack : Type 0
RecordBack = (fields : List ℕ) → is_record fields ≡ true → record_of (record_packet fields) ≡ fields

-- A record has 48 bytes.
abbrev pub RecordLength : Type 0
RecordLength = (fields : List ℕ) → is_record fields ≡ true → length fields ≡ record_size

-- A record has a known kind.
abbrev pub RecordKind : Type 0
RecordKind = (fields : List ℕ) → is_record fields ≡ true → (1 ≤ byte fields kind_place) × (byte fields kind_place ≤ 12)
