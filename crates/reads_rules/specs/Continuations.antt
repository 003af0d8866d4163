-- Document 01, of a completion that continues a read: "Let A be the address, L the length, p the DWs already taken."
-- A reader must believe all of it: `legal` is 33's, `differs` 31's, `status_bad` 32's, `reported` what Failed answers,
-- `clean` demand 3's.
use Rattle.std.specs.Prelude.{ℕ, ◌+◌, ◌-◌, ◌*◌, ◌%◌, Bool, ◌||◌, ◌&&◌, not, eqb, leb}
use Rattle.bits.specs.Choice.{pick}
use Rattle.byte_enables.specs.declared.Access.{Access}
use Rattle.byte_enables.specs.Enables.{off, trail, total}
use Rattle.reads_rules.specs.declared.read.Read.{Read}
use Rattle.reads_rules.specs.declared.piece.Piece.{Piece}
use Rattle.reads_rules.specs.declared.origin.Origin.{Origin}

-- "Byte Count is the total if p is 0, else 4 x (L - p) - trail"
unfoldable pub byte_count_at : Access → ℕ → ℕ
byte_count_at a p = pick (eqb p 0) (total a) (4 * (a.length - p) - trail a)

-- "Lower Address is (A + off) mod 128 if p is 0, else (A + 4p) mod 128"
unfoldable pub lower_address_at : Access → ℕ → ℕ
lower_address_at a p = pick (eqb p 0) ((a.address + off a) % 128) ((a.address + 4 * p) % 128)

-- of the lengths: "n is 1 to L - p", "and n = L - p, or A + 4p + 4n is a multiple of RCB"
unfoldable pub cut_allowed : ℕ → Access → ℕ → ℕ → Bool
cut_allowed rcb a p n =
    (leb 1 n && leb n (a.length - p))
    && (eqb n (a.length - p) || eqb ((a.address + 4 * p + 4 * n) % rcb) 0)

-- "A completion of n DWs legally continues"
unfoldable pub legal : Origin → Read → Piece → Bool
legal o r c =
    cut_allowed o.settings.rcb r.request.access r.taken c.length
    && (eqb c.header.byte_count (byte_count_at r.request.access r.taken)
    && eqb c.header.lower_address (lower_address_at r.request.access r.taken))

-- "status 000"
abbrev pub succeeds : Piece → Bool
succeeds c = eqb c.header.status 0b000

-- 32: "BCM set, status 010, status 000 without data, or another status with data"
unfoldable pub status_bad : Piece → Bool
status_bad c =
    c.header.byte_count_modified
    || (eqb c.header.status 0b010
    || pick (succeeds c) (not c.with_data) c.with_data)

-- 31: "TC or any Attr bit differs from the read's"
unfoldable pub differs : Read → Piece → Bool
differs r c =
    not (eqb c.traffic_class r.request.traffic_class)
    || not (eqb c.attributes r.request.attributes)

-- the status that Failed answers: "001, 100 and reserved ones, which report as 001"
unfoldable pub reported : ℕ → ℕ
reported status = pick (eqb status 0b100) 0b100 0b001

-- "Clean means a CplD read without a number, status 000, EP and BCM 0, matching ID, tag, TC and Attr."
unfoldable pub clean : Origin → ℕ → Read → Piece → Bool
clean o tag r c =
    c.with_data
    && (succeeds c
    && (not c.poisoned
    && (not c.header.byte_count_modified
    && (eqb c.requester o.requester
    && (eqb c.header.tag tag
    && not (differs r c))))))
