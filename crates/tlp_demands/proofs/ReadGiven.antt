-- What was read may be written: each field fits, and the route agrees with the kind.
use Prim.Native.Nat.{ℕ, ◌+◌, ◌-◌, ◌*◌, ◌/◌, ◌%◌, ◌^◌, ◌≤◌, ◌<◌}
use mathlib.Core.Path.{◌≡◌, refl, sym}
use mathlib.Core.Bool.{Bool, true, false, ◌||◌, ◌&&◌, not, true≢false}
use mathlib.Core.List.{List}
use native.Mathlib.Omega.{arith}
use lib.Dec.{eqb}
use lib.ListN.{length, drop}
use borrow.Author.Tests.{lt-leb, eq-eqb}
use Rattle.bits.specs.Choice.{pick}
use Rattle.bits.specs.Field.{field, low}
use Rattle.bits.specs.Word.{byte, word, Bytes}
use Rattle.bits.proofs.FieldLaws.{field_at}
use Rattle.bits.proofs.WordLaws.{word_split, bytes_drop}
use Rattle.tlp.specs.PacketTypes.{family_of, is_io_or_config}
use Rattle.tlp.specs.Sizes.{length_at, digest_at}
use Rattle.tlp.specs.declared.settings.Settings.{Settings}
use Rattle.tlp.specs.declared.packet.Implicit.{Implicit}
use Rattle.tlp.specs.declared.packet.Route.TheVariants.{Address, Id, Implicit as Implied}
use Rattle.tlp.specs.declared.packet_type.PacketType.{PacketType}
use Rattle.tlp.specs.declared.packet_type.PacketType.TheVariants.{MRd32, MRd64, MWr32, MWr64, IORd, IOWr, CfgRd0, CfgWr0, CfgRd1, CfgWr1, Msg, MsgD, Cpl, CplD, Unlisted}
use Rattle.tlp_read.specs.Fields.{packet_at, attributes_at, digest_word, implicit_at, routing_at, message_route_at, route_at, kind_at, request_at, config_at, message_at, completion_at}
use Rattle.tlp_writable.specs.Given.{over, length_bad, common_bad, request_bad, config_bad, message_bad, completion_bad, own_bad, reserved_given, address_route_bad, id_route_bad, message_route_bad, route_bad, given_rows}
use Rattle.tlp.specs.Rows.{NoneHold}
use Rattle.tlp_demands.proofs.Tests.{or-false}
use Rattle.tlp_demands.proofs.ReadRows.{Sound}
use Rattle.tlp_demands.proofs.ReadWords.{word_small, count-inside}
use Rattle.tlp_demands.proofs.ReadTypes.{same-type}
use Rattle.tlp_demands.proofs.ReadHeader.{attr-high, length-count, status-count}

fits : (w x : ℕ) → x < 2 ^ w → over w x ≡ false
fits w x h = lt-leb (2 ^ w) x h

-- ---- what every packet has

attr-fits : (io : Bool) (h l : ℕ) → h < 2 → l < 4 → over 3 (pick io 0 h * 4 + l) ≡ false
attr-fits true h l p q = fits 3 (0 * 4 + l) (omega arith)
attr-fits false h l p q = fits 3 (h * 4 + l) (omega arith)

attr-reserved : (io : Bool) (h l : ℕ) → l < 4 → io && not (eqb (field (pick io 0 h * 4 + l) 2 1) 0) ≡ false
attr-reserved true h l q = rw (attr-high 0 l (omega arith) q)
attr-reserved false h l q = refl

digest-fits : (td : Bool) (w : ℕ) → w < 2 ^ 32 → over 32 (pick td w 0) || (not td && not (eqb (pick td w 0) 0)) ≡ false
digest-fits true w h = or-false (fits 32 w h) refl
digest-fits false w h = refl

-- ---- routes

address-fits : (w x : ℕ) → x < 2 ^ w → address_route_bad w (Address (x / 4 * 4)) ≡ false
unfolding address_route_bad
address-fits w x h = or-false (fits w (x / 4 * 4) (omega arith)) (rw (eq-eqb (x / 4 * 4 % 4) 0 (omega arith)))

message-route : (a i : Bool) (body id : ℕ) (w : Implicit) → id ≡ field body 48 16
    → message_route_bad body (pick a (Address body) (pick i (Id id) (Implied w))) ≡ false
unfolding message_route_bad
message-route true i body id w e = rw (eq-eqb body body refl)
message-route false true body id w e = rw (eq-eqb id (field body 48 16) e)
message-route false false body id w e = refl

module _ (s : List ℕ) (small : Bytes s) where
  common : (t : PacketType) → common_bad (packet_at t s) ≡ false
  unfolding common_bad packet_at attributes_at digest_word
  common t =
      or-false (fits 3 (field (byte s 1) 4 3) (omega arith))
      (or-false (attr-fits (is_io_or_config (family_of t)) (field (byte s 1) 2 1) (field (byte s 2) 4 2) (omega arith) (omega arith))
      (digest-fits (digest_at s) (word 4 (drop (length s - 4) s) 0) (word_small (drop (length s - 4) s) (bytes_drop s small (length s - 4)) 4 0)))

  reserved : {c : Settings} (t : PacketType) → Sound c t s → reserved_given (packet_at t s) ≡ false
  unfolding reserved_given packet_at attributes_at
  reserved t o = rw (same-type s small t o) (attr-reserved (is_io_or_config (family_of t)) (field (byte s 1) 2 1) (field (byte s 2) 4 2) (omega arith))

  word_fits : (i : ℕ) → over 16 (word 2 s i) ≡ false
  word_fits i = fits 16 (word 2 s i) (word_small s small 2 i)

  byte_fits : (i : ℕ) → over 8 (byte s i) ≡ false
  byte_fits i = fits 8 (byte s i) (small i)

  length_fits : length_bad (length_at s) ≡ false
  length_fits = count-inside (length-count s small)

  request-fits : request_bad (request_at s) ≡ false
  unfolding request_bad request_at
  request-fits =
      or-false (word_fits 4) (or-false (byte_fits 6) (or-false length_fits
      (or-false (fits 4 (low (byte s 7) 4) (omega arith)) (fits 4 (field (byte s 7) 4 4) (omega arith)))))

  config-fits : config_bad (config_at s) ≡ false
  unfolding config_bad config_at
  config-fits = or-false (fits 4 (low (byte s 10) 4) (omega arith)) (or-false (fits 6 (field (byte s 11) 2 6) (omega arith)) request-fits)

  message-fits : message_bad (message_at s) ≡ false
  unfolding message_bad message_at
  message-fits = or-false (word_fits 4) (or-false (byte_fits 6) (or-false (byte_fits 7) (fits 64 (word 8 s 8) (word_small s small 8 8))))

  completion-fits : completion_bad (completion_at s) ≡ false
  unfolding completion_bad completion_at
  completion-fits =
      or-false (word_fits 4) (or-false (fits 3 (field (byte s 6) 5 3) (omega arith)) (or-false (count-inside (status-count s small))
      (or-false (byte_fits 10) (fits 7 (low (byte s 11) 7) (omega arith)))))

  narrow-fits : (w : ℕ) → 2 ^ 32 ≤ 2 ^ w → address_route_bad w (Address (word 4 s 8 / 4 * 4)) ≡ false
  narrow-fits w h = address-fits w (word 4 s 8) (omega (arith, word_small s small 4 8))

  wide_fits : address_route_bad 64 (Address (word 8 s 8 / 4 * 4)) ≡ false
  wide_fits = address-fits 64 (word 8 s 8) (word_small s small 8 8)

  -- a message's ID is the top 16 bits of bytes 8 to 15
  message-routed : message_route_bad (word 8 s 8) (message_route_at s) ≡ false
  unfolding message_route_at
  message-routed =
      message-route (eqb (routing_at s) 1) (eqb (routing_at s) 2) (word 8 s 8) (word 2 s 8) (implicit_at (routing_at s))
      (sym (field_at 48 16 0 (word 2 s 8) (word 6 s 10) (word 8 s 8) (word_small s small 2 8) (word_small s small 6 10) (omega (arith, word_split 2 6 s 8))))

  -- the kind's own fields, and the route
  own : {c : Settings} (t : PacketType) → Sound c t s → (own_bad (kind_at t s) ≡ false) × (route_bad (route_at t s) (kind_at t s) ≡ false)
  unfolding own_bad route_bad kind_at route_at message_at id_route_bad
  own MRd32 o = (request-fits, narrow-fits 64 (omega arith))
  own MRd64 o = (request-fits, wide_fits)
  own MWr32 o = (request-fits, narrow-fits 64 (omega arith))
  own MWr64 o = (request-fits, wide_fits)
  own IORd o = (request-fits, narrow-fits 32 (omega arith))
  own IOWr o = (request-fits, narrow-fits 32 (omega arith))
  own CfgRd0 o = (config-fits, word_fits 8)
  own CfgWr0 o = (config-fits, word_fits 8)
  own CfgRd1 o = (config-fits, word_fits 8)
  own CfgWr1 o = (config-fits, word_fits 8)
  own Msg o = (message-fits, message-routed)
  own MsgD o = (or-false length_fits message-fits, message-routed)
  own Cpl o = (completion-fits, word_fits 8)
  own CplD o = (or-false length_fits completion-fits, word_fits 8)
  own Unlisted o = absurd (true≢false o.listed)

  pub given-none : {c : Settings} (t : PacketType) → Sound c t s → NoneHold (given_rows (packet_at t s))
  unfolding packet_at
  given-none t o = (common t, ((own t o).0, (reserved t o, ((own t o).1, tt))))
