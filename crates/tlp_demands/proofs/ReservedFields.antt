-- What a header says is kept where its reserved bits are cleared.
use Prim.Native.Nat.{ℕ, zero, suc, ◌+◌, ◌-◌, ◌/◌, ◌^◌, ◌≤◌}
use mathlib.Core.Path.{◌≡◌, refl, sym, ap, ◌∙◌}
use mathlib.Core.Bool.{Bool, true, ◌&&◌, and-eq-true_iff}
use mathlib.Core.List.{List, [], ◌∷◌, ◌++◌}
use native.Mathlib.Nat.{mod-mod}
use native.Mathlib.Omega.{arith}
use lib.Bits.{bit_and, and_shr, and_mod, and_mask, and_le_l}
use lib.Dec.{eqb}
use lib.ListN.{length, get_or, drop, length-drop, get_or-eq_default}
use lib.Seq.{ext_get_or, get_or-drop}
use borrow.Author.Tests.{eqb-true}
use Rattle.bits.specs.Field.{field, low}
use Rattle.bits.specs.Word.{byte, word, Bytes}
use Rattle.bits.proofs.WordLaws.{word_split}
use Rattle.tlp.specs.Reserved.{masked, memory_front, plain_front, data_front, bare_front, whole, address_end, config_end, completion_end}
use Rattle.tlp.specs.Sizes.{length_at}
use Rattle.tlp_read.specs.Fields.{traffic_class_at, address_type_at, address_at}
use Rattle.tlp_demands.proofs.ReadMasks.{whole-byte}

-- ---- bytes under masks

-- r holds the bytes of s, each under its mask; past the masks they are the same
pub record Cleared (ms s r : List ℕ) : Type 0 where
  pub small : Bytes s
  pub size : length r ≡ length s
  pub place : (i : ℕ) → byte r i ≡ bit_and (byte s i) (get_or ms i 0xFF)

length-masked : (ms s : List ℕ) → length (masked ms s) ≡ length s
length-masked [] s = refl
length-masked (m ∷ ms) [] = refl
length-masked (m ∷ ms) (b ∷ s) = ap suc (length-masked ms s)

byte-masked : (ms s : List ℕ) → Bytes s → (i : ℕ) → byte (masked ms s) i ≡ bit_and (byte s i) (get_or ms i 0xFF)
byte-masked [] s small i = whole-byte (byte s i) (small i)
byte-masked (m ∷ ms) [] small i = refl
byte-masked (m ∷ ms) (b ∷ s) small zero = refl
byte-masked (m ∷ ms) (b ∷ s) small (suc i) = byte-masked ms s (λ j. small (suc j)) i

pub cleared : (ms s : List ℕ) → Bytes s → Cleared ms s (masked ms s)
cleared ms s small = record { small = small; size = length-masked ms s; place = byte-masked ms s small }

-- ---- what a mask keeps

low_and : (b m w : ℕ) → low m w ≡ 2 ^ w - 1 → low (bit_and b m) w ≡ low b w
low_and b m w e = rw (and_mod, e, and_mask, mod-mod)

field-and : (b m p w : ℕ) → field m p w ≡ 2 ^ w - 1 → field (bit_and b m) p w ≡ field b p w
field-and b m p w e = rw and_shr (low_and (b / 2 ^ p) (m / 2 ^ p) w e)

module _ {ms s r : List ℕ} (u : Cleared ms s r) where
  pub low-kept : (i w : ℕ) → low (get_or ms i 0xFF) w ≡ 2 ^ w - 1 → low (byte r i) w ≡ low (byte s i) w
  low-kept i w e = rw (u.place i) (low_and (byte s i) (get_or ms i 0xFF) w e)

  pub field-kept : (i p w : ℕ) → field (get_or ms i 0xFF) p w ≡ 2 ^ w - 1 → field (byte r i) p w ≡ field (byte s i) p w
  field-kept i p w e = rw (u.place i) (field-and (byte s i) (get_or ms i 0xFF) p w e)

  pub byte-kept : (i : ℕ) → get_or ms i 0xFF ≡ 0xFF → byte r i ≡ byte s i
  byte-kept i e = u.place i ∙ rw e (sym (whole-byte (byte s i) (u.small i)))

  -- what the bytes past the masks hold
  pub drop-kept : (n : ℕ) → length ms ≤ n → drop n r ≡ drop n s
  drop-kept n h =
      ext_get_or 0 (drop n r) (drop n s) (simp length-drop (rw u.size))
      (λ i l. simp get_or-drop (byte-kept (n + i) (get_or-eq_default ms 0xFF (omega arith))))

-- ---- numbers of several bytes

-- the masks of the k bytes from place i on are whole
abbrev wholes : ℕ → ℕ → List ℕ → Bool
wholes zero i ms = true
wholes (suc k) i ms = eqb (get_or ms i 0xFF) 0xFF && wholes k (i + 1) ms

module _ {ms s r : List ℕ} (u : Cleared ms s r) where
  length-kept : low (get_or ms 2 0xFF) 2 ≡ 3 → get_or ms 3 0xFF ≡ 0xFF → length_at r ≡ length_at s
  unfolding length_at
  length-kept e h = rw (low-kept u 2 2 e, byte-kept u 3 h)

  word_kept : (k i : ℕ) → wholes k i ms ≡ true → word k r i ≡ word k s i
  word_kept zero i e = refl
  word_kept (suc k) i e =
      let h = (and-eq-true_iff (eqb (get_or ms i 0xFF) 0xFF) (wholes k (i + 1) ms)).0 e in
      rw (byte-kept u i (eqb-true _ _ h.0), word_kept k (i + 1) h.1)

  -- of an address the low two bits may be cleared
  address_kept : (k : ℕ) → wholes k 8 ms ≡ true → field (get_or ms (8 + k) 0xFF) 2 6 ≡ 63 → address_at (k + 1) r ≡ address_at (k + 1) s
  address_kept k e h =
      let i = 8 + k in
      omega (arith, word_split k 1 s 8, word_split k 1 r 8, word_kept k 8 e, field-kept u i 2 6 h, u.small i, u.place i, and_le_l (byte s i) (get_or ms i 0xFF))

-- ---- bytes 0 to 3, and what all headers have after them

pub record Common (s r : List ℕ) : Type 0 where
  pub type : byte r 0 ≡ byte s 0
  pub class : traffic_class_at r ≡ traffic_class_at s
  pub order : field (byte r 2) 4 2 ≡ field (byte s 2) 4 2
  pub poisoned : field (byte r 2) 6 1 ≡ field (byte s 2) 6 1
  pub digest : field (byte r 2) 7 1 ≡ field (byte s 2) 7 1
  pub sender : word 2 r 4 ≡ word 2 s 4
  pub byte6 : byte r 6 ≡ byte s 6
  pub byte7 : byte r 7 ≡ byte s 7
  pub target : word 2 r 8 ≡ word 2 s 8

-- Attr[2]
abbrev High : List ℕ → List ℕ → Type 0
High s r = field (byte r 1) 2 1 ≡ field (byte s 1) 2 1

-- s under these masks in bytes 0 to 3, and with bytes 4 to 9 whole
abbrev Front : List ℕ → List ℕ → List ℕ → List ℕ → Type 0
Front front rest s r = Cleared (front ++ (whole ++ (0xFF ∷ 0xFF ∷ rest))) s r

module _ {rest s r : List ℕ} where
  common : {m1 m2 m3 : ℕ} → Front (0xFF ∷ m1 ∷ m2 ∷ m3 ∷ []) rest s r
      → field m1 4 3 ≡ 7 → field m2 4 2 ≡ 3 → field m2 6 1 ≡ 1 → field m2 7 1 ≡ 1 → Common s r
  common u class order poisoned digest = record {
    type = byte-kept u 0 refl;
    class = field-kept u 1 4 3 class;
    order = field-kept u 2 4 2 order;
    poisoned = field-kept u 2 6 1 poisoned;
    digest = field-kept u 2 7 1 digest;
    sender = word_kept u 2 4 refl;
    byte6 = byte-kept u 6 refl;
    byte7 = byte-kept u 7 refl;
    target = word_kept u 2 8 refl;
  }

  pub memory-front : Front memory_front rest s r
      → Common s r × (length_at r ≡ length_at s) × (address_type_at r ≡ address_type_at s) × High s r × (low (byte r 1) 1 ≡ low (byte s 1) 1)
  memory-front u = (common u refl refl refl refl, length-kept u refl refl, field-kept u 2 2 2 refl, field-kept u 1 2 1 refl, low-kept u 1 1 refl)

  pub plain-front : Front plain_front rest s r → Common s r × (length_at r ≡ length_at s) × (address_type_at r ≡ address_type_at s)
  plain-front u = (common u refl refl refl refl, length-kept u refl refl, field-kept u 2 2 2 refl)

  pub data-front : Front data_front rest s r → Common s r × (length_at r ≡ length_at s) × High s r
  data-front u = (common u refl refl refl refl, length-kept u refl refl, field-kept u 1 2 1 refl)

  pub bare-front : Front bare_front rest s r → Common s r × High s r
  bare-front u = (common u refl refl refl refl, field-kept u 1 2 1 refl)

-- ---- bytes 8 on

module _ {m0 m1 m2 m3 : ℕ} {s r : List ℕ} where
  pub narrow-end : Cleared (m0 ∷ m1 ∷ m2 ∷ m3 ∷ (whole ++ address_end)) s r → address_at 4 r ≡ address_at 4 s
  narrow-end u = address_kept u 3 refl refl

  pub wide-end : Cleared (m0 ∷ m1 ∷ m2 ∷ m3 ∷ (whole ++ (whole ++ address_end))) s r → (address_at 8 r ≡ address_at 8 s) × (word 4 r 8 ≡ word 4 s 8)
  wide-end u = (address_kept u 7 refl refl, word_kept u 4 8 refl)

  pub config-end : Cleared (m0 ∷ m1 ∷ m2 ∷ m3 ∷ (whole ++ config_end)) s r
      → (low (byte r 10) 4 ≡ low (byte s 10) 4) × (field (byte r 11) 2 6 ≡ field (byte s 11) 2 6)
  config-end u = (low-kept u 10 4 refl, field-kept u 11 2 6 refl)

  pub message-end : Cleared (m0 ∷ m1 ∷ m2 ∷ m3 ∷ (whole ++ (whole ++ whole))) s r → word 8 r 8 ≡ word 8 s 8
  message-end u = word_kept u 8 8 refl

  pub completion-end : Cleared (m0 ∷ m1 ∷ m2 ∷ m3 ∷ (whole ++ completion_end)) s r → (byte r 10 ≡ byte s 10) × (low (byte r 11) 7 ≡ low (byte s 11) 7)
  completion-end u = (byte-kept u 10 refl, low-kept u 11 7 refl)
