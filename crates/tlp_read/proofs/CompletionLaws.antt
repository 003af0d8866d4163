-- A completion straight from its bytes: a law for each return, and that reading answers the same.
use Prim.Native.Nat.{ℕ, ◌≤◌}
use mathlib.Core.Path.{◌≡◌, refl}
use mathlib.Core.Bool.{Bool, true, false, ◌||◌, and-eq-true_iff}
use mathlib.Core.List.{List}
use lib.Dec.{eqb, leb}
use lib.ListN.{length}
use borrow.Author.Tests.{eqb-true, le-ltb, leb-true}
use Rattle.bits.specs.Choice.{pick}
use Rattle.bits.specs.Word.{byte}
use Rattle.tlp.specs.Rows.{first}
use Rattle.tlp.specs.Settings.{settings_listed}
use Rattle.tlp.specs.PacketTypes.{type_at, family_of}
use Rattle.tlp.specs.Packets.{access_of}
use Rattle.tlp.specs.Sizes.{data_bytes, bytes_called}
use Rattle.tlp.specs.Contents.{plain_bad, enables_bad, page_bad}
use Rattle.tlp.specs.declared.settings.Settings.{Settings}
use Rattle.tlp.specs.declared.packet_type.PacketType.{PacketType}
use Rattle.tlp.specs.declared.packet_type.PacketType.TheVariants.{Cpl, CplD}
use Rattle.tlp.specs.declared.packet_type.Family.TheVariants.{Completion}
use Rattle.tlp.proofs.FamilyLaws.{completion-types}
use Rattle.tlp_read.specs.Fields.{route_at, kind_at, packet_at}
use Rattle.tlp_read.specs.Read.{hint_or_address_type_set, routing_bad, form_bad, read_rows}
use Rattle.tlp_read.specs.Completions.{has_completion, completion_type, completion_packet, completion_rows}

-- ---- what reading says of a completion

completion-type : (b : ℕ) → (eqb b 0x4A || eqb b 0x0A) ≡ true → type_at b ≡ completion_type b
unfolding type_at
completion-type b h = go (eqb b 0x4A) refl
  where
    go : (x : Bool) → eqb b 0x4A ≡ x → type_at b ≡ completion_type b
    go true e = rw (eqb-true b 0x4A e)
    go false e = let k : eqb b 0x0A ≡ true = rw e at h in rw (eqb-true b 0x0A k)

completion-family : (b : ℕ) → family_of (completion_type b) ≡ Completion
completion-family b = go (eqb b 0x4A)
  where
    go : (x : Bool) → family_of (pick x CplD Cpl) ≡ Completion
    go true = refl
    go false = refl

-- the rows of a completion, whichever of the two types it has
typed-rows : (c : Settings) (bytes : List ℕ) (t : PacketType) → settings_listed c ≡ true → 12 ≤ length bytes → type_at (byte bytes 0) ≡ t → family_of t ≡ Completion
    → first (read_rows c bytes) ≡ first (completion_rows c.mps (access_of (packet_at t bytes)).length bytes)
unfolding first hint_or_address_type_set plain_bad enables_bad page_bad routing_bad form_bad bytes_called data_bytes access_of packet_at route_at kind_at
typed-rows c bytes t ok l e f =
    completion-types (λ u. type_at (byte bytes 0) ≡ u → first (read_rows c bytes) ≡ first (completion_rows c.mps (access_of (packet_at u bytes)).length bytes))
    (λ k. rw (k, ok, le-ltb (length bytes) 12 l))
    (λ k. rw (k, ok, le-ltb (length bytes) 12 l))
    t f e

module _ (bytes : List ℕ) (h : has_completion bytes ≡ true) where
  header-and-type : (leb 12 (length bytes) ≡ true) × ((eqb (byte bytes 0) 0x4A || eqb (byte bytes 0) 0x0A) ≡ true)
  unfolding has_completion
  header-and-type = (and-eq-true_iff (leb 12 (length bytes)) (eqb (byte bytes 0) 0x4A || eqb (byte bytes 0) 0x0A)).0 h

  -- the first row that holds is 3 or 5
  pub completion-rows : (c : Settings) → settings_listed c ≡ true → first (read_rows c bytes) ≡ first (completion_rows c.mps (access_of (completion_packet bytes)).length bytes)
  unfolding completion_packet
  completion-rows c ok = typed-rows c bytes (completion_type (byte bytes 0)) ok (leb-true 12 (length bytes) header-and-type.0) (completion-type (byte bytes 0) header-and-type.1) (completion-family (byte bytes 0))

  -- and the packet is the bytes as a completion
  pub completion-packet : packet_at (type_at (byte bytes 0)) bytes ≡ completion_packet bytes
  unfolding completion_packet
  completion-packet = rw (completion-type (byte bytes 0) header-and-type.1)
