-- What the reader says of a completion with data: its type, four bytes of payload for each doubleword, and no more data
-- than MPS.
use Prim.Native.Nat.{ℕ, ◌*◌, ◌^◌, ◌≤◌}
use mathlib.Core.Path.{◌≡◌, refl}
use mathlib.Core.Bool.{Bool, true, false, false≢true}
use mathlib.Core.List.{List}
use native.Mathlib.Omega.{arith}
use lib.Dec.{ltb}
use lib.ListN.{length, drop, length-drop}
use lib.Seq.{length-take-le}
use borrow.Author.Tests.{eqb-true, ltb-false, not-false}
use Rattle.bits.specs.Choice.{pick}
use Rattle.bits.specs.Word.{byte}
use Rattle.tlp.specs.Rows.{first}
use Rattle.tlp.proofs.RowLaws.{first-none}
use Rattle.tlp.specs.PacketTypes.{type_at, family_of}
use Rattle.tlp.specs.Packets.{memory_form, type_of, access_of}
use Rattle.tlp.specs.Sizes.{data_bytes, bytes_called, length_at}
use Rattle.tlp.specs.declared.settings.Settings.{Settings}
use Rattle.tlp.specs.declared.packet_type.PacketType.{PacketType}
use Rattle.tlp.specs.declared.packet_type.PacketType.TheVariants.{MRd32, MRd64, MWr32, MWr64, IORd, IOWr, CfgRd0, CfgWr0, CfgRd1, CfgWr1, Msg, MsgD, Cpl, CplD, Unlisted}
use Rattle.tlp_read.specs.Fields.{address_at, packet_at, kind_at, route_at}
use Rattle.tlp_read.specs.Read.{read_rows, payload_of, packet_in, payload_in}
use Rattle.reads_rules.specs.Pieces.{of_completions, is_completion, piece_of, piece_in}

-- a memory request has one of two types, and neither is a completion's
no-form : (a : ℕ) (narrow wide : PacketType) → of_completions (family_of narrow) ≡ false → of_completions (family_of wide) ≡ false
    → of_completions (family_of (memory_form a narrow wide)) ≡ true → ⊥
no-form a narrow wide n w = go (ltb a (2 ^ 32))
  where
    go : (c : Bool) → of_completions (family_of (pick c narrow wide)) ≡ true → ⊥
    go true e = false≢true (rw n at e)
    go false e = false≢true (rw w at e)

with-data-type : (t : PacketType) (b : List ℕ) → is_completion (packet_at t b) ≡ true → (piece_of (packet_at t b)).with_data ≡ true → t ≡ CplD
unfolding is_completion packet_at type_of kind_at route_at piece_of
with-data-type MRd32 b e d = absurd (no-form (address_at 4 b) MRd32 MRd64 refl refl e)
with-data-type MRd64 b e d = absurd (no-form (address_at 8 b) MRd32 MRd64 refl refl e)
with-data-type MWr32 b e d = absurd (no-form (address_at 4 b) MWr32 MWr64 refl refl e)
with-data-type MWr64 b e d = absurd (no-form (address_at 8 b) MWr32 MWr64 refl refl e)
with-data-type IORd b e d = absurd (false≢true e)
with-data-type IOWr b e d = absurd (false≢true e)
with-data-type CfgRd0 b e d = absurd (false≢true e)
with-data-type CfgWr0 b e d = absurd (false≢true e)
with-data-type CfgRd1 b e d = absurd (false≢true e)
with-data-type CfgWr1 b e d = absurd (false≢true e)
with-data-type Msg b e d = absurd (false≢true e)
with-data-type MsgD b e d = absurd (false≢true e)
with-data-type Cpl b e d = absurd (false≢true d)
with-data-type CplD b e d = refl
with-data-type Unlisted b e d = absurd (false≢true d)

pub record PieceSize (settings : Settings) (b : List ℕ) : Type 0 where
  pub payload : length (payload_in b) ≡ 4 * (piece_in b).length
  pub most : 4 * (piece_in b).length ≤ settings.mps

-- of rows 3 and 5
cpld-sized : (mps : ℕ) (b : List ℕ) → length b ≡ bytes_called CplD b → data_bytes CplD (access_of (packet_at CplD b)).length ≤ mps
    → (length (payload_of (packet_at CplD b) b) ≡ 4 * (piece_of (packet_at CplD b)).length) × (4 * (piece_of (packet_at CplD b)).length ≤ mps)
unfolding packet_at kind_at route_at type_of access_of piece_of payload_of data_bytes bytes_called
cpld-sized mps b called most = (length-take-le (4 * length_at b) (drop 12 b) (simp length-drop (omega arith)), most)

type-sized : (settings : Settings) (b : List ℕ) → type_at (byte b 0) ≡ CplD → first (read_rows settings b) ≡ 0
    → PieceSize settings b
type-sized settings b e z =
    let n = first-none (read_rows settings b) refl z in
    let called = eqb-true (length b) (bytes_called (type_at (byte b 0)) b) (not-false _ n.1.1.1.1.0) in
    let most = ltb-false settings.mps (data_bytes (type_at (byte b 0)) (access_of (packet_in b)).length) n.1.1.1.1.1.1.0 in
    let k = cpld-sized settings.mps b (rw e at called) (rw e at most) in
    record { payload = rw e k.0; most = rw e k.1 }

pub piece-size : (settings : Settings) (b : List ℕ) → first (read_rows settings b) ≡ 0
    → is_completion (packet_in b) ≡ true → (piece_in b).with_data ≡ true → PieceSize settings b
piece-size settings b z c d = type-sized settings b (with-data-type (type_at (byte b 0)) b c d) z
