-- The header of a packet that was read is written as the bytes read, under their masks.
use Prim.Native.Nat.{ℕ, ◌+◌, ◌*◌, ◌≤◌, ◌<◌}
use mathlib.Core.Path.{◌≡◌, refl, ap₂, ◌∙◌}
use mathlib.Core.Bool.{true, false, ◌||◌, not, true≢false}
use mathlib.Core.List.{List, [], ◌∷◌, ◌++◌}
use native.Mathlib.Omega.{arith}
use lib.Bits.{bit_and}
use lib.Dec.{eqb, ltb}
use lib.ListN.{length}
use borrow.Author.Tests.{ltb-false}
use Rattle.bits.specs.Field.{field, low, bit}
use Rattle.bits.specs.Word.{byte, word, bytes, Bytes}
use Rattle.tlp.specs.Packets.{access_of}
use Rattle.tlp.specs.PacketTypes.{family_of, is_io_or_config}
use Rattle.tlp.specs.Contents.{plain_bad, not_plain}
use Rattle.tlp.specs.Sizes.{length_at, digest_at}
use Rattle.tlp.specs.Reserved.{memory_front, plain_front, data_front, bare_front, whole, address_end, config_end, completion_end, masks}
use Rattle.tlp.specs.declared.settings.Settings.{Settings}
use Rattle.tlp.specs.declared.packet_type.PacketType.{PacketType}
use Rattle.tlp.specs.declared.packet_type.PacketType.TheVariants.{MRd32, MRd64, MWr32, MWr64, IORd, IOWr, CfgRd0, CfgWr0, CfgRd1, CfgWr1, Msg, MsgD, Cpl, CplD, Unlisted}
use Rattle.tlp_read.specs.Fields.{packet_at, attributes_at, address_type_at, hint_at, address_at, route_at, kind_at, request_at, config_at, message_at, completion_at}
use Rattle.tlp_read.specs.Read.{hint_or_address_type_set, form_bad}
use Rattle.tlp_write.specs.Layout.{request_bytes, config_bytes, message_bytes, completion_bytes, memory_address, own_bytes, front_bytes, header_of}
use Rattle.bits.specs.Choice.{flag}
use Rattle.tlp_demands.proofs.Tests.{left-no, right-no}
use Rattle.tlp_demands.proofs.ReadRows.{Sound}
use Rattle.tlp_demands.proofs.ReadMasks.{under, whole-byte, memory-class, plain-class, other-class, digest_bits, request-flags, data-flags, bare-flags, no_byte, enables-byte, extended-byte, register-byte, status-byte, lower-byte}
use Rattle.tlp_demands.proofs.ReadWords.{Count, count, word-under, address-under}
use Rattle.tlp_demands.proofs.ReadTypes.{narrow, wide, first_byte_lem}

pub attr-high : (h l : ℕ) → h < 2 → l < 4 → field (h * 4 + l) 2 1 ≡ h
attr-high h l p q = omega arith

attr-low : (h l : ℕ) → l < 4 → low (h * 4 + l) 2 ≡ l
attr-low h l q = omega arith

-- AT is 0 in I/O and configuration requests
plain_type : {c : Settings} {s : List ℕ} (t : PacketType) → is_io_or_config (family_of t) ≡ true → Sound c t s → not (eqb (address_type_at s) 0) ≡ false
unfolding plain_bad not_plain
plain_type {c} {s} t e o =
    let a = packet_at t s in
    let h = rw e at o.content.1.0 in
    right-no (not (eqb (low a.attributes 2) 0)) _ (right-no (not (eqb a.traffic_class 0)) _ (right-no (not (eqb (access_of a).length 1)) _ h))

module _ (s : List ℕ) (small : Bytes s) where
  pub length-count : Count 4 (low (byte s 2) 2) (byte s 3) (length_at s)
  unfolding length_at
  length-count = count 4 (low (byte s 2) 2) (byte s 3) (omega arith) (small 3)

  -- ---- bytes 0 to 3

  -- with byte 0, Attr[2] and Length given
  abbrev front : ℕ → ℕ → ℕ → List ℕ
  front f h n =
      f
      ∷ (low (field (byte s 1) 4 3) 3 * 16 + field (h * 4 + field (byte s 2) 4 2) 2 1 * 4)
      ∷ (flag (bit (byte s 2) 7) * 128 + flag (bit (byte s 2) 6) * 64 + low (h * 4 + field (byte s 2) 4 2) 2 * 16 + field n 8 2)
      ∷ low n 8
      ∷ []

  front-under : (f h n m1 m2 m3 : ℕ) → h < 2
      → f ≡ bit_and (byte s 0) 0xFF
      → low (field (byte s 1) 4 3) 3 * 16 + h * 4 ≡ bit_and (byte s 1) m1
      → digest_bits (byte s 2) + field n 8 2 ≡ bit_and (byte s 2) m2
      → low n 8 ≡ bit_and (byte s 3) m3
      → front f h n ≡ under (0xFF ∷ m1 ∷ m2 ∷ m3 ∷ []) 0 s
  front-under f h n m1 m2 m3 p e0 e1 e2 e3 =
      let l : field (byte s 2) 4 2 < 4 = omega arith in
      rw (attr-high h (field (byte s 2) 4 2) p l, attr-low h (field (byte s 2) 4 2) l, e0, e1, e2, e3)

  length-low : low (length_at s) 8 ≡ bit_and (byte s 3) 0xFF
  length-low = length-count.low ∙ whole-byte (byte s 3) (small 3)

  length_high : (n : ℕ) → digest_bits (byte s 2) + low (byte s 2) 2 ≡ n → digest_bits (byte s 2) + field (length_at s) 8 2 ≡ n
  length_high n e = rw length-count.high e

  module _ (f : ℕ) (e : f ≡ bit_and (byte s 0) 0xFF) where
    memory-front : hint_at s || not (eqb (address_type_at s) 0) ≡ false → front f (field (byte s 1) 2 1) (length_at s) ≡ under memory_front 0 s
    memory-front h =
        front-under f (field (byte s 1) 2 1) (length_at s) 0x75 0xFF 0xFF (omega arith) e
        (memory-class (byte s 1) (small 1) (left-no _ _ h)) (length_high _ (request-flags (byte s 2) (small 2) (right-no (hint_at s) _ h))) length-low

    plain-front : not (eqb (address_type_at s) 0) ≡ false → front f 0 (length_at s) ≡ under plain_front 0 s
    plain-front h =
        front-under f 0 (length_at s) 0x70 0xFF 0xFF (omega arith) e
        (plain-class (byte s 1) (small 1)) (length_high _ (request-flags (byte s 2) (small 2) h)) length-low

    data-front : front f (field (byte s 1) 2 1) (length_at s) ≡ under data_front 0 s
    data-front =
        front-under f (field (byte s 1) 2 1) (length_at s) 0x74 0xF3 0xFF (omega arith) e
        (other-class (byte s 1) (small 1)) (length_high _ (data-flags (byte s 2) (small 2))) length-low

    bare-front : front f (field (byte s 1) 2 1) 0 ≡ under bare_front 0 s
    bare-front =
        front-under f (field (byte s 1) 2 1) 0 0x74 0xF0 0x00 (omega arith) e
        (other-class (byte s 1) (small 1)) (bare-flags (byte s 2) (small 2)) (no_byte (byte s 3) (small 3))

  -- ---- bytes 4 on

  pub status-count : Count 16 (low (byte s 6) 4) (byte s 7) (completion_at s).byte_count
  unfolding completion_at
  status-count = count 16 (low (byte s 6) 4) (byte s 7) (omega arith) (small 7)

  -- two bytes as a number, and two more
  quad-under : (i x y m n : ℕ) → i + 2 ≤ length s → x ≡ bit_and (byte s (i + 1 + 1)) m → y ≡ bit_and (byte s (i + 1 + 1 + 1)) n
      → bytes 2 (word 2 s i) ++ (x ∷ y ∷ []) ≡ under (0xFF ∷ 0xFF ∷ m ∷ n ∷ []) i s
  quad-under i x y m n h p q = ap₂ ◌++◌ (word-under s small 2 i h) (ap₂ ◌∷◌ p (ap₂ ◌∷◌ q refl))

  module _ (twelve : 12 ≤ length s) where
    request-under : request_bytes (request_at s) ≡ under whole 4 s
    unfolding request_at
    request-under = quad-under 4 _ _ 0xFF 0xFF (omega arith) (whole-byte (byte s 6) (small 6)) (enables-byte (byte s 7) (small 7))

    io-under : request_bytes (request_at s) ++ bytes 4 (address_at 4 s) ≡ under (whole ++ address_end) 4 s
    io-under = ap₂ ◌++◌ request-under (address-under s small 3 8 twelve)

    narrow-under : request_bytes (request_at s) ++ memory_address (address_at 4 s) ≡ under (whole ++ address_end) 4 s
    unfolding memory_address
    narrow-under = ap₂ ◌++◌ request-under (narrow s small _ _ ∙ address-under s small 3 8 twelve)

    config-under : config_bytes (word 2 s 8) (config_at s) ≡ under (whole ++ config_end) 4 s
    unfolding config_at
    config-under = ap₂ ◌++◌ request-under (quad-under 8 _ _ 0x0F 0xFC (omega arith) (extended-byte (byte s 10) (small 10)) (register-byte (byte s 11) (small 11)))

    completion-under : completion_bytes (word 2 s 8) (completion_at s) ≡ under (whole ++ completion_end) 4 s
    unfolding completion_at
    completion-under =
        ap₂ ◌++◌
        (quad-under 4 _ _ 0xFF 0xFF (omega arith) (rw status-count.high (status-byte (byte s 6) (small 6))) (status-count.low ∙ whole-byte (byte s 7) (small 7)))
        (quad-under 8 _ _ 0xFF 0x7F (omega arith) (whole-byte (byte s 10) (small 10)) (lower-byte (byte s 11) (small 11)))

  module _ (h : ltb (length s) 16 ≡ false) where
    sixteen : 16 ≤ length s
    sixteen = ltb-false (length s) 16 h

    wide-under : eqb (word 4 s 8) 0 ≡ false → request_bytes (request_at s) ++ memory_address (address_at 8 s) ≡ under (whole ++ (whole ++ address_end)) 4 s
    unfolding memory_address
    wide-under e = ap₂ ◌++◌ (request-under (omega (arith, sixteen))) (wide s small _ _ e ∙ address-under s small 7 8 sixteen)

    message-under : message_bytes (message_at s) ≡ under (whole ++ (whole ++ whole)) 4 s
    unfolding message_at
    message-under =
        ap₂ ◌++◌
        (quad-under 4 _ _ 0xFF 0xFF (omega (arith, sixteen)) (whole-byte (byte s 6) (small 6)) (whole-byte (byte s 7) (small 7)))
        (word-under s small 8 8 sixteen)

  -- ---- the whole header

  pub header : {c : Settings} (t : PacketType) → Sound c t s → header_of (packet_at t s) ≡ under (masks t) 0 s
  unfolding header_of front_bytes packet_at attributes_at digest_at access_of route_at kind_at request_at config_at own_bytes hint_or_address_type_set form_bad
  header MRd32 o = ap₂ ◌++◌ (memory-front _ (first_byte_lem s small MRd32 o) o.hints) (narrow-under o.twelve)
  header MRd64 o = ap₂ ◌++◌ (memory-front _ (first_byte_lem s small MRd64 o) o.hints) (wide-under o.sixteen o.form)
  header MWr32 o = ap₂ ◌++◌ (memory-front _ (first_byte_lem s small MWr32 o) o.hints) (narrow-under o.twelve)
  header MWr64 o = ap₂ ◌++◌ (memory-front _ (first_byte_lem s small MWr64 o) o.hints) (wide-under o.sixteen o.form)
  header IORd o = ap₂ ◌++◌ (plain-front _ (first_byte_lem s small IORd o) (plain_type IORd refl o)) (io-under o.twelve)
  header IOWr o = ap₂ ◌++◌ (plain-front _ (first_byte_lem s small IOWr o) (plain_type IOWr refl o)) (io-under o.twelve)
  header CfgRd0 o = ap₂ ◌++◌ (plain-front _ (first_byte_lem s small CfgRd0 o) (plain_type CfgRd0 refl o)) (config-under o.twelve)
  header CfgWr0 o = ap₂ ◌++◌ (plain-front _ (first_byte_lem s small CfgWr0 o) (plain_type CfgWr0 refl o)) (config-under o.twelve)
  header CfgRd1 o = ap₂ ◌++◌ (plain-front _ (first_byte_lem s small CfgRd1 o) (plain_type CfgRd1 refl o)) (config-under o.twelve)
  header CfgWr1 o = ap₂ ◌++◌ (plain-front _ (first_byte_lem s small CfgWr1 o) (plain_type CfgWr1 refl o)) (config-under o.twelve)
  header Msg o = ap₂ ◌++◌ (bare-front _ (first_byte_lem s small Msg o)) (message-under o.sixteen)
  header MsgD o = ap₂ ◌++◌ (data-front _ (first_byte_lem s small MsgD o)) (message-under o.sixteen)
  header Cpl o = ap₂ ◌++◌ (bare-front _ (first_byte_lem s small Cpl o)) (completion-under o.twelve)
  header CplD o = ap₂ ◌++◌ (data-front _ (first_byte_lem s small CplD o)) (completion-under o.twelve)
  header Unlisted o = absurd (true≢false o.listed)
