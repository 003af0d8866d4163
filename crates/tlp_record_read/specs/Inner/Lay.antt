-- Serves the contracts of the functions of src/lay.rt: a record's parts straight from a packet's bytes.
use Rattle.std.specs.Prelude.{ℕ, List, [], ◌∷◌, ◌++◌}
use Rattle.bits.specs.Choice.{pick, flag}
use Rattle.bits.specs.Word.{bytes}
use Rattle.bits.specs.Put.{over_front}
use Rattle.tlp.specs.PacketTypes.{packet_type_at, has_data}
use Rattle.tlp.specs.Sizes.{length_at, digest_at}
use Rattle.tlp_read.specs.Fields.{traffic_class_at, poisoned_at, requester_at, first_enables_at, last_enables_at, extended_register_at, register_at}
use Rattle.tlp_read.specs.Fields.{status_at, byte_count_modified_at, lower_address_field_at, kind_at, packet_at}
use Rattle.tlp_record.specs.Record.{fields_of, record_of}
use Rattle.tlp_record_read.specs.declared.lay.Front.{Front}

-- bytes 0 to 7
abbrev pub front_read : Front → List ℕ → List ℕ
front_read f packet =
    f.kind ∷ traffic_class_at packet ∷ f.attributes ∷ flag (poisoned_at packet) ∷ flag (digest_at packet)
    ∷ f.route ∷ f.tag ∷ f.code ∷ []

-- 1 where data follows the header
abbrev pub data_flag : List ℕ → ℕ
data_flag packet = flag (has_data (packet_type_at packet))

-- the kind's number
abbrev pub kind_read : List ℕ → ℕ
kind_read packet = (fields_of (kind_at (packet_type_at packet) packet)).kind

-- Msg and Cpl have no length
abbrev pub length_given : List ℕ → ℕ
length_given packet = pick (has_data (packet_type_at packet)) (length_at packet) 0

-- bytes 32 to 39 of a request
abbrev pub request_part : List ℕ → List ℕ
request_part packet = bytes 4 0 ++ (bytes 2 (requester_at packet) ++ (first_enables_at packet ∷ last_enables_at packet ∷ []))

-- bytes 32 to 39 of a message or a completion: no enables
abbrev pub counted_part : ℕ → ℕ → List ℕ
counted_part count id = bytes 4 count ++ (bytes 2 id ++ (0 ∷ 0 ∷ []))

-- bytes 40 to 47 of a configuration request
abbrev pub registers_part : List ℕ → List ℕ
registers_part packet = extended_register_at packet ∷ register_at packet ∷ 0 ∷ 0 ∷ 0 ∷ 0 ∷ 0 ∷ 0 ∷ []

-- bytes 40 to 47 of a completion
abbrev pub status_part : List ℕ → List ℕ
status_part packet =
    0 ∷ 0 ∷ status_at packet ∷ flag (byte_count_modified_at packet) ∷ lower_address_field_at packet ∷ 0 ∷ 0 ∷ 0 ∷ []

-- the record of the packet in the bytes
abbrev pub record_read : List ℕ → List ℕ
record_read packet = record_of (packet_at (packet_type_at packet) packet)

-- what is lent, with that record over its front
abbrev pub record_laid : List ℕ → List ℕ → List ℕ
record_laid packet out = over_front (record_read packet) out
