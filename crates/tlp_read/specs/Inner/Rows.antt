-- Serves the contracts of the functions of src/rows.rt, and of `fields::memory_address`.
use Rattle.std.specs.Prelude.{ℕ, ◌*◌, ◌≤◌, ◌≡◌, Bool, false, ◌||◌, ◌&&◌, not, List, [], ◌∷◌, eqb, ltb, length}
use Rattle.bits.specs.Word.{word}
use Rattle.byte_enables.specs.declared.Access.{Access}
use Rattle.tlp.specs.Rows.{Row, row}
use Rattle.tlp.specs.PacketTypes.{packet_type_at, header_dw, family_of, is_unlisted}
use Rattle.tlp.specs.Packets.{address_of, access_of}
use Rattle.tlp.specs.Sizes.{length_at, data_bytes, bytes_called}
use Rattle.tlp.specs.Contents.{not_plain}
use Rattle.tlp.specs.declared.packet_type.Family.{Family}
use Rattle.tlp_read.specs.Fields.{traffic_class_at, low_attributes_at, hint_at, address_type_at, last_enables_at, route_at, packet_at}
use Rattle.tlp_read.specs.Read.{judge_rows}

abbrev pub family_at : List ℕ → Family
family_at bytes = family_of (packet_type_at bytes)

-- byte 0 is in the kind table
abbrev pub Listed : List ℕ → Type 0
Listed bytes = is_unlisted (family_at bytes) ≡ false

-- the header is there whole
abbrev pub HeaderThere : List ℕ → Type 0
HeaderThere bytes = 4 * header_dw (packet_type_at bytes) ≤ length bytes

-- address, length and enables
abbrev pub access_read : List ℕ → Access
access_read bytes = access_of (packet_at (packet_type_at bytes) bytes)

-- the address that the packet goes by
abbrev pub address_read : List ℕ → ℕ
address_read bytes = address_of (route_at (packet_type_at bytes) bytes)

-- the bytes of data
abbrev pub data_read : List ℕ → ℕ
data_read bytes = data_bytes (packet_type_at bytes) (access_read bytes).length

-- what 2 ^ 32 - 1 doublewords have, so that no sum of sizes wraps
abbrev pub most_data : ℕ
most_data = 17179869180

-- row 4 of a memory request
abbrev pub hint_or_address_type_at : List ℕ → Bool
hint_or_address_type_at bytes = hint_at bytes || not (eqb (address_type_at bytes) 0)

-- row 6 of I/O and configuration
abbrev pub not_plain_at : List ℕ → Bool
not_plain_at bytes = not_plain (length_at bytes) (traffic_class_at bytes) (low_attributes_at bytes) (address_type_at bytes)

-- row 7 of I/O and configuration
abbrev pub last_given : List ℕ → Bool
last_given bytes = not (eqb (last_enables_at bytes) 0)

-- row 10 of a memory request
abbrev pub wide_form_bad : List ℕ → Bool
wide_form_bad bytes = eqb (header_dw (packet_type_at bytes)) 4 && eqb (word 4 bytes 8) 0

-- row 5 alone
abbrev pub payload_rows : ℕ → List ℕ → List Row
payload_rows mps bytes = row 5 (ltb mps (data_read bytes)) ∷ []

-- rows 4 to 10
abbrev pub judged_rows : ℕ → List ℕ → List Row
judged_rows mps bytes = judge_rows mps (packet_type_at bytes) bytes

-- the rows after the one for fewer than 12 bytes
abbrev pub header_rows : ℕ → List ℕ → List Row
header_rows mps bytes =
    row 2 (is_unlisted (family_at bytes))
    ∷ row 1 (eqb (header_dw (packet_type_at bytes)) 4 && ltb (length bytes) 16)
    ∷ row 3 (not (eqb (length bytes) (bytes_called (packet_type_at bytes) bytes)))
    ∷ judged_rows mps bytes
