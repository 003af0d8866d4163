-- What was read has the type that byte 0 says, and its routing.
use Prim.Native.Nat.{ℕ, zero, suc, ◌+◌, ◌*◌, ◌/◌, ◌^◌, ◌<◌}
use mathlib.Core.Path.{◌≡◌, refl}
use mathlib.Core.Bool.{false, true≢false}
use mathlib.Core.List.{List}
use native.Mathlib.Nat.{pos_of_ne-zero}
use native.Mathlib.Omega.{arith}
use lib.Bits.{bit_and}
use lib.Dec.{eqb, ltb}
use lib.ListN.{length}
use borrow.Author.Tests.{lt-ltb, le-ltb, eqb-false, ltb-false}
use Rattle.bits.specs.Choice.{pick}
use Rattle.bits.specs.Field.{low}
use Rattle.bits.specs.Word.{byte, word, Bytes}
use Rattle.bits.proofs.WordLaws.{word_split}
use Rattle.tlp.specs.Reserved.{masks}
use Rattle.tlp.specs.PacketTypes.{first_byte, header_dw, family_of, is_message}
use Rattle.tlp.specs.Packets.{type_of, access_of}
use Rattle.tlp.specs.Sizes.{length_at, data_bytes}
use Rattle.tlp.specs.declared.settings.Settings.{Settings}
use Rattle.tlp.specs.declared.packet.Route.TheVariants.{Address, Id, Implicit as Implied}
use Rattle.tlp.specs.declared.packet_type.PacketType.{PacketType}
use Rattle.tlp.specs.declared.packet_type.PacketType.TheVariants.{MRd32, MRd64, MWr32, MWr64, IORd, IOWr, CfgRd0, CfgWr0, CfgRd1, CfgWr1, Msg, MsgD, Cpl, CplD, Unlisted}
use Rattle.tlp_read.specs.Fields.{packet_at, route_at, kind_at, request_at, config_at, implicit_at, message_route_at, routing_at}
use Rattle.tlp_read.specs.Read.{form_bad, routing_bad}
use Rattle.tlp_write.specs.Layout.{routing, routing_in}
use Rattle.tlp_demands.proofs.ReadRows.{Sound}
use Rattle.tlp_demands.proofs.ReadMasks.{type-byte}
use Rattle.tlp_demands.proofs.ReadWords.{word_small}

-- a message's routing is written as it was read
routing-back : (r a i : ℕ) → ltb 5 r ≡ false → routing (pick (eqb r 1) (Address a) (pick (eqb r 2) (Id i) (Implied (implicit_at r)))) ≡ r
unfolding implicit_at
routing-back zero a i h = refl
routing-back (suc zero) a i h = refl
routing-back (suc (suc zero)) a i h = refl
routing-back (suc (suc (suc zero))) a i h = refl
routing-back (suc (suc (suc (suc zero)))) a i h = refl
routing-back (suc (suc (suc (suc (suc zero))))) a i h = refl
routing-back (suc (suc (suc (suc (suc (suc r)))))) a i h = absurd (omega (arith, ltb-false 5 (suc (suc (suc (suc (suc (suc r)))))) h))

module _ (s : List ℕ) (small : Bytes s) where
  -- four bytes of address are below 4 GiB
  pub narrow : {A : Type 0} (a b : A) → pick (ltb (word 4 s 8 / 4 * 4) (2 ^ 32)) a b ≡ a
  narrow a b = rw (lt-ltb (word 4 s 8 / 4 * 4) (2 ^ 32) (omega (arith, word_small s small 4 8)))

  -- eight are not, where the first four are not all 0
  pub wide : {A : Type 0} (a b : A) → eqb (word 4 s 8) 0 ≡ false → pick (ltb (word 8 s 8 / 4 * 4) (2 ^ 32)) a b ≡ b
  wide a b e =
      let p : 0 < word 4 s 8 = pos_of_ne-zero (eqb-false _ _ e) in
      rw (le-ltb (word 8 s 8 / 4 * 4) (2 ^ 32) (omega (arith, word_split 4 4 s 8, p)))

  -- a packet's type, what byte 0 has beside it, the data that it calls for, and the bytes of its header
  abbrev Kept : PacketType → Type 0
  Kept t =
      (type_of (packet_at t s) ≡ t)
      × (routing_in (route_at t s) (kind_at t s) ≡ pick (is_message (family_of t)) (low (byte s 0) 3) 0)
      × (data_bytes t (access_of (packet_at t s)).length ≡ data_bytes t (length_at s))
      × (length (masks t) ≡ 4 * header_dw t)

  kept : {c : Settings} (t : PacketType) → Sound c t s → Kept t
  unfolding type_of packet_at route_at kind_at request_at config_at message_route_at form_bad routing_bad routing_in data_bytes access_of
  kept MRd32 o = (narrow MRd32 MRd64, refl, refl, refl)
  kept MRd64 o = (wide MRd32 MRd64 o.form, refl, refl, refl)
  kept MWr32 o = (narrow MWr32 MWr64, refl, refl, refl)
  kept MWr64 o = (wide MWr32 MWr64 o.form, refl, refl, refl)
  kept IORd o = (refl, refl, refl, refl)
  kept IOWr o = (refl, refl, refl, refl)
  kept CfgRd0 o = (refl, refl, refl, refl)
  kept CfgWr0 o = (refl, refl, refl, refl)
  kept CfgRd1 o = (refl, refl, refl, refl)
  kept CfgWr1 o = (refl, refl, refl, refl)
  kept Msg o = (refl, routing-back (routing_at s) (word 8 s 8) (word 2 s 8) o.routing, refl, refl)
  kept MsgD o = (refl, routing-back (routing_at s) (word 8 s 8) (word 2 s 8) o.routing, refl, refl)
  kept Cpl o = (refl, refl, refl, refl)
  kept CplD o = (refl, refl, refl, refl)
  kept Unlisted o = absurd (true≢false o.listed)

  pub same-type : {c : Settings} (t : PacketType) → Sound c t s → type_of (packet_at t s) ≡ t
  same-type t o = (kept t o).0

  pub first_byte_lem : {c : Settings} (t : PacketType) → Sound c t s → first_byte (type_of (packet_at t s)) + routing_in (route_at t s) (kind_at t s) ≡ bit_and (byte s 0) 0xFF
  first_byte_lem t o = rw ((kept t o).0, (kept t o).1) (rw o.type at (type-byte (byte s 0) (small 0) (rw o.type o.listed)))

  pub same-data : {c : Settings} (t : PacketType) → Sound c t s → data_bytes t (access_of (packet_at t s)).length ≡ data_bytes t (length_at s)
  same-data t o = (kept t o).2

  pub masks-length : {c : Settings} (t : PacketType) → Sound c t s → length (masks t) ≡ 4 * header_dw t
  masks-length t o = (kept t o).3
