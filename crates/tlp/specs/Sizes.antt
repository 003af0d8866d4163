-- Document 01: the size that a header calls for, "header + data + digest". All to be believed.
use Rattle.std.specs.Prelude.{ℕ, ◌+◌, ◌*◌, Bool, ◌&&◌, List, [], ◌∷◌, eqb, ltb, length, Result}
use Rattle.bits.specs.Choice.{pick}
use Rattle.bits.specs.Field.{low, bit}
use Rattle.bits.specs.Word.{byte}
use Rattle.tlp.specs.Rows.{Row, row, first}
use Rattle.tlp.specs.PacketTypes.{packet_type_at, header_dw, has_data, family_of, is_unlisted}
use Rattle.tlp.specs.declared.packet_type.PacketType.{PacketType}
use Rattle.tlp.specs.declared.refusal.Refusal.{Refusal}
use Rattle.tlp.specs.Refusals.{answered}

-- a count field in which 0 stands for the largest count
unfoldable pub or_most : ℕ → ℕ → ℕ
or_most most n = pick (eqb n 0) most n

-- "Byte 2: .. Length[9:8] 1:0. Byte 3: Length[7:0]." "Length 0 means 1024 DW."
unfoldable pub length_at : List ℕ → ℕ
length_at bytes = or_most 1024 (low (byte bytes 2) 2 * 256 + byte bytes 3)

-- "Byte 2: TD bit 7"
unfoldable pub digest_at : List ℕ → Bool
digest_at bytes = bit (byte bytes 2) 7

-- the bytes of data of a packet with length n
unfoldable pub data_bytes : PacketType → ℕ → ℕ
data_bytes t n = pick (has_data t) (4 * n) 0

-- "TD set means one trailing DW"
unfoldable pub digest_bytes : Bool → ℕ
digest_bytes td = pick td 4 0

-- what the header of a packet of type t calls for
unfoldable pub bytes_called : PacketType → List ℕ → ℕ
bytes_called t bytes = 4 * header_dw t + data_bytes t (length_at bytes) + digest_bytes (digest_at bytes)

-- rows 1, 2 and 1 of the number table, of n bytes whose byte 0 has type t
abbrev pub type_rows : ℕ → PacketType → List Row
type_rows n t =
    row 1 (ltb n 12)
    ∷ row 2 (is_unlisted (family_of t))
    ∷ row 1 (eqb (header_dw t) 4 && ltb n 16)
    ∷ []

-- the same of the bytes
abbrev pub size_rows : List ℕ → List Row
size_rows bytes = type_rows (length bytes) (packet_type_at bytes)

-- the size that the header at the front of the bytes calls for, or the number that says why there is none
unfoldable pub size_called : List ℕ → Result ℕ Refusal
size_called bytes = answered (first (size_rows bytes)) (bytes_called (packet_type_at bytes) bytes)
