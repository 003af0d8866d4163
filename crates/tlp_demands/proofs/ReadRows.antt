-- The reader's table: what was accepted holds in no row.
use Prim.Native.Nat.{ℕ, zero, suc, ◌≤◌}
use mathlib.Core.Path.{◌≡◌, refl}
use mathlib.Core.Bool.{false, ◌&&◌, not}
use mathlib.Core.List.{List, [], ◌∷◌}
use lib.Dec.{eqb, ltb}
use lib.ListN.{length}
use borrow.Author.Tests.{ltb-false, eqb-true, not-false}
use Rattle.bits.specs.Word.{byte}
use Rattle.std.specs.Prelude.{Ok}
use Rattle.tlp.specs.Refusals.{answered}
use Rattle.tlp.specs.Rows.{row, first, NoneHold}
use Rattle.tlp.specs.Settings.{settings_listed}
use Rattle.tlp.specs.PacketTypes.{type_at, header_dw, family_of, is_unlisted}
use Rattle.tlp.specs.Sizes.{bytes_called}
use Rattle.tlp.specs.Contents.{content_rows}
use Rattle.tlp.specs.declared.settings.Settings.{Settings}
use Rattle.tlp.specs.declared.packet.Packet.{Packet}
use Rattle.tlp.specs.declared.packet_type.PacketType.{PacketType}
use Rattle.tlp_read.specs.Fields.{address_type_at, packet_at}
use Rattle.tlp_read.specs.Read.{read_packet, read_rows, hint_or_address_type_set, routing_bad, form_bad}
use Rattle.tlp.proofs.RowLaws.{first-none, none-split}

-- bytes of type t in which no row of the reader's table holds
pub record Sound (c : Settings) (t : PacketType) (s : List ℕ) : Type 0 where
  pub type : type_at (byte s 0) ≡ t
  pub settings : not (settings_listed c) ≡ false
  pub twelve : 12 ≤ length s
  pub listed : is_unlisted (family_of t) ≡ false
  pub sixteen : eqb (header_dw t) 4 && ltb (length s) 16 ≡ false
  pub size : length s ≡ bytes_called t s
  pub hints : hint_or_address_type_set t s ≡ false
  pub content : NoneHold (content_rows c.mps t (packet_at t s) (address_type_at s))
  pub routing : routing_bad t s ≡ false
  pub form : form_bad t s ≡ false

answer-none : (n : ℕ) (q p : Packet) → answered n q ≡ Ok p → (n ≡ 0) × (q ≡ p)
answer-none zero q p e = (refl, cc)
answer-none (suc n) q p e = (cc, cc)

none-sound : (c : Settings) (s : List ℕ) → NoneHold (read_rows c s) → Sound c (type_at (byte s 0)) s
none-sound c s n =
    let t = type_at (byte s 0) in
    let judged = n.1.1.1.1.1 in
    let last = none-split (content_rows c.mps t (packet_at t s) (address_type_at s)) (row 9 (routing_bad t s) ∷ row 10 (form_bad t s) ∷ []) judged.1 in
    record {
      type = refl;
      settings = n.0;
      twelve = ltb-false (length s) 12 n.1.0;
      listed = n.1.1.0;
      sixteen = n.1.1.1.0;
      size = eqb-true (length s) (bytes_called t s) (not-false _ n.1.1.1.1.0);
      hints = judged.0;
      content = last.0;
      routing = last.1.0;
      form = last.1.1.0;
    }

pub accepted : (c : Settings) (s : List ℕ) (p : Packet) → read_packet c s ≡ Ok p
    → Sound c (type_at (byte s 0)) s × (packet_at (type_at (byte s 0)) s ≡ p)
unfolding read_packet
accepted c s p e =
    let a = answer-none (first (read_rows c s)) (packet_at (type_at (byte s 0)) s) p e in
    (none-sound c s (first-none (read_rows c s) refl a.0), a.1)
