-- Document 01, rows 5 to 8 of the number table, over decoded values, so that the writer's "5 to 9 as above" is the same
-- definition. All to be believed.
use Rattle.std.specs.Prelude.{ℕ, ◌+◌, ◌*◌, ◌%◌, Bool, false, ◌||◌, ◌&&◌, not, List, [], ◌∷◌, eqb, ltb}
use Rattle.bits.specs.Field.{low}
use Rattle.byte_enables.specs.declared.Access.{Access}
use Rattle.byte_enables.specs.Enables.{enables_allowed}
use Rattle.tlp.specs.Rows.{Row, row}
use Rattle.tlp.specs.PacketTypes.{family_of, is_io_or_config}
use Rattle.tlp.specs.Packets.{access_of}
use Rattle.tlp.specs.Sizes.{data_bytes}
use Rattle.tlp.specs.declared.packet.Packet.{Packet}
use Rattle.tlp.specs.declared.packet_type.PacketType.{PacketType}
use Rattle.tlp.specs.declared.packet_type.Family.{Family}
use Rattle.tlp.specs.declared.packet_type.Family.TheVariants.{Memory, Io, Config, Message, Completion, Unlisted}

-- "Length not 1, or TC, Attr[1:0] or AT not 0"
unfoldable pub not_plain : ℕ → ℕ → ℕ → ℕ → Bool
not_plain length tc attr at = not (eqb length 1) || (not (eqb tc 0) || (not (eqb (low attr 2) 0) || not (eqb at 0)))

-- the enables as those of length 1
abbrev pub ruled_as_one : Access → Access
ruled_as_one a = record { address = a.address; length = 1; first = a.first; last = a.last }

-- "enables break the rules": "I/O and configuration follow Length 1"; the other kinds have none
unfoldable pub enables_bad : Family → Access → Bool
enables_bad Memory a = not (enables_allowed a)
enables_bad Io a = not (enables_allowed (ruled_as_one a))
enables_bad Config a = not (enables_allowed (ruled_as_one a))
enables_bad Message a = false
enables_bad Completion a = false
enables_bad Unlisted a = false

-- "address mod 4096 plus 4 x Length exceeds 4096"
abbrev pub crosses_page : Access → Bool
crosses_page a = ltb 4096 (a.address % 4096 + 4 * a.length)

-- the same of memory requests alone
unfoldable pub page_bad : Family → Access → Bool
page_bad Memory a = crosses_page a
page_bad Io a = false
page_bad Config a = false
page_bad Message a = false
page_bad Completion a = false
page_bad Unlisted a = false

-- "I/O or configuration with Length not 1, or TC, Attr[1:0] or AT not 0"
unfoldable pub plain_bad : Family → Access → ℕ → ℕ → ℕ → Bool
plain_bad f a tc attr at = is_io_or_config f && not_plain a.length tc attr at

-- rows 6 to 8 of a family f; at is the AT field
abbrev pub fault_rows : Family → Access → ℕ → ℕ → ℕ → List Row
fault_rows f a tc attr at =
    row 6 (plain_bad f a tc attr at)
    ∷ row 7 (enables_bad f a)
    ∷ row 8 (page_bad f a)
    ∷ []

-- rows 5 to 8 of a type t of family f
abbrev pub value_rows : ℕ → PacketType → Family → Access → ℕ → ℕ → ℕ → List Row
value_rows mps t f a tc attr at = row 5 (ltb mps (data_bytes t a.length)) ∷ fault_rows f a tc attr at

-- rows 5 to 8 of a packet of type t
abbrev pub content_rows : ℕ → PacketType → Packet → ℕ → List Row
content_rows mps t p at = value_rows mps t (family_of t) (access_of p) p.traffic_class p.attributes at
