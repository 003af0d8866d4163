-- A completion straight from its bytes, as the promises of src/completion.rt say it. That reading says the same of the
-- bytes is proved in proofs/CompletionLaws.antt.
use Rattle.std.specs.Prelude.{ℕ, ◌+◌, ◌*◌, Bool, ◌&&◌, ◌||◌, not, List, [], ◌∷◌, leb, eqb, ltb, length}
use Rattle.bits.specs.Choice.{pick}
use Rattle.bits.specs.Word.{byte}
use Rattle.tlp.specs.Rows.{Row, row}
use Rattle.tlp.specs.Sizes.{digest_at, digest_bytes}
use Rattle.tlp.specs.declared.packet.Packet.{Packet}
use Rattle.tlp.specs.declared.packet_type.PacketType.{PacketType}
use Rattle.tlp.specs.declared.packet_type.PacketType.TheVariants.{Cpl, CplD}
use Rattle.tlp_read.specs.Fields.{packet_at}

-- the kind table's CplD, 4A, and Cpl, 0A, with their header of 3 DW there whole
unfoldable pub has_completion : List ℕ → Bool
has_completion bytes = leb 12 (length bytes) && (eqb (byte bytes 0) 0x4A || eqb (byte bytes 0) 0x0A)

-- which of the two, by byte 0
abbrev pub completion_type : ℕ → PacketType
completion_type b = pick (eqb b 0x4A) CplD Cpl

-- the bytes as a completion
unfoldable pub completion_packet : List ℕ → Packet
completion_packet bytes = packet_at (completion_type (byte bytes 0)) bytes

-- 3 and 5, of a completion of n doublewords: no other row of reading is about completions
abbrev pub completion_rows : ℕ → ℕ → List ℕ → List Row
completion_rows mps n bytes =
    row 3 (not (eqb (length bytes) (12 + 4 * n + digest_bytes (digest_at bytes))))
    ∷ row 5 (ltb mps (4 * n))
    ∷ []
