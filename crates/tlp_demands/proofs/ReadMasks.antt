-- Bytes under masks, and rules of one byte that are computed at all 256 of them.
use Prim.Native.Nat.{ℕ, zero, suc, ◌+◌, ◌*◌, ◌/◌, ◌≤◌, ◌<◌}
use mathlib.Core.Path.{◌≡◌, refl, ap}
use mathlib.Core.Bool.{Bool, true, false, ◌||◌, ◌&&◌, not, and-eq-true_iff}
use mathlib.Core.List.{List, [], ◌∷◌, ◌++◌}
use native.Mathlib.Nat.{zero-add, add-zero, le_of_suc-le-suc, not-suc-le-zero}
use native.Mathlib.Numerals.{add-one}
use native.Mathlib.Omega.{arith}
use lib.Bits.{bit_and}
use lib.Dec.{eqb}
use lib.ListN.{length, drop}
use lib.Seq.{drop-cons}
use borrow.Author.Tests.{eqb-true}
use Rattle.bits.specs.Choice.{pick, flag}
use Rattle.bits.specs.Field.{field, low, bit}
use Rattle.bits.specs.Word.{byte}
use Rattle.tlp.specs.PacketTypes.{type_at, first_byte, family_of, is_unlisted, is_message}
use Rattle.tlp.specs.Reserved.{masked}

-- ---- a list under masks, byte by byte

-- the bytes from place i on, each under its mask
abbrev pub under : List ℕ → ℕ → List ℕ → List ℕ
under [] i s = []
under (m ∷ ms) i s = bit_and (byte s i) m ∷ under ms (i + 1) s

masked-from : (ms s : List ℕ) (i : ℕ) → i + length ms ≤ length s → masked ms (drop i s) ≡ under ms i s ++ drop (i + length ms) s
masked-from [] s i h = rw add-zero
masked-from (m ∷ ms) s i h =
    let e : i + 1 + length ms ≡ i + suc (length ms) = omega arith in
    rw (drop-cons s i 0 (omega arith), ← add-one i, ← e) (ap (λ (l : List ℕ). bit_and (byte s i) m ∷ l) (masked-from ms s (i + 1) (omega arith)))

pub masked-under : (ms s : List ℕ) → length ms ≤ length s → masked ms s ≡ under ms 0 s ++ drop (length ms) s
masked-under ms s h = rw zero-add at (masked-from ms s 0 (omega arith))

-- ---- a rule of one byte

-- the two sides agree at the n numbers from i on, but where the test holds
abbrev agree : (ℕ → Bool) → (ℕ → ℕ) → (ℕ → ℕ) → ℕ → ℕ → Bool
agree f x y i zero = true
agree f x y i (suc n) = (f i || eqb (x i) (y i)) && agree f x y (suc i) n

agreed : (a b : Bool) → a || b ≡ true → a ≡ false → b ≡ true
agreed true b e h = cc
agreed false b e h = e

module _ (f : ℕ → Bool) (x y : ℕ → ℕ) where
  agree_at : (n i k : ℕ) → agree f x y i n ≡ true → k < n → f (i + k) ≡ false → x (i + k) ≡ y (i + k)
  agree_at zero i k e h g = absurd (not-suc-le-zero h)
  agree_at (suc n) i zero e h g =
      let z = add-zero i in
      rw z (eqb-true (x i) (y i) (agreed (f i) (eqb (x i) (y i)) ((and-eq-true_iff _ (agree f x y (suc i) n)).0 e).0 (rw z at g)))
  agree_at (suc n) i (suc k) e h g =
      let z : i + suc k ≡ suc i + k = omega arith in
      rw z (agree_at n (suc i) k ((and-eq-true_iff (f i || eqb (x i) (y i)) _).0 e).1 (le_of_suc-le-suc h) (rw z at g))

  pub rule-but : agree f x y 0 256 ≡ true → (b : ℕ) → b < 256 → f b ≡ false → x b ≡ y b
  rule-but e b h g = rw zero-add at (agree_at 256 0 b e h (rw zero-add g))

pub rule : (x y : ℕ → ℕ) → agree (λ b. false) x y 0 256 ≡ true → (b : ℕ) → b < 256 → x b ≡ y b
rule x y e b h = rule-but (λ b. false) x y e b h refl

-- ---- whole bytes, and byte 0

pub whole-byte : (b : ℕ) → b < 256 → b ≡ bit_and b 0xFF
whole-byte = rule _ _ refl

pub type-byte : (b : ℕ) → b < 256 → is_unlisted (family_of (type_at b)) ≡ false
    → first_byte (type_at b) + pick (is_message (family_of (type_at b))) (low b 3) 0 ≡ bit_and b 0xFF
unfolding type_at
type-byte = rule-but _ _ _ refl

-- ---- byte 1: TC, Attr[2] and TH

pub memory-class : (b : ℕ) → b < 256 → eqb (low b 1) 1 ≡ false → low (field b 4 3) 3 * 16 + field b 2 1 * 4 ≡ bit_and b 0x75
memory-class = rule-but _ _ _ refl

pub plain-class : (b : ℕ) → b < 256 → low (field b 4 3) 3 * 16 + 0 * 4 ≡ bit_and b 0x70
plain-class = rule _ _ refl

pub other-class : (b : ℕ) → b < 256 → low (field b 4 3) 3 * 16 + field b 2 1 * 4 ≡ bit_and b 0x74
other-class = rule _ _ refl

-- ---- byte 2: TD, EP, Attr[1:0], AT and Length[9:8]

abbrev pub digest_bits : ℕ → ℕ
digest_bits b = flag (bit b 7) * 128 + flag (bit b 6) * 64 + field b 4 2 * 16

pub request-flags : (b : ℕ) → b < 256 → not (eqb (field b 2 2) 0) ≡ false → digest_bits b + low b 2 ≡ bit_and b 0xFF
request-flags = rule-but _ _ _ refl

pub data-flags : (b : ℕ) → b < 256 → digest_bits b + low b 2 ≡ bit_and b 0xF3
data-flags = rule _ _ refl

pub bare-flags : (b : ℕ) → b < 256 → digest_bits b + 0 ≡ bit_and b 0xF0
bare-flags = rule _ _ refl

pub no_byte : (b : ℕ) → b < 256 → 0 ≡ bit_and b 0x00
no_byte = rule _ _ refl

-- ---- the bytes that a kind has of its own

pub enables-byte : (b : ℕ) → b < 256 → low (field b 4 4) 4 * 16 + low (low b 4) 4 ≡ bit_and b 0xFF
enables-byte = rule _ _ refl

pub address-byte : (b : ℕ) → b < 256 → b / 4 * 4 ≡ bit_and b 0xFC
address-byte = rule _ _ refl

pub extended-byte : (b : ℕ) → b < 256 → low (low b 4) 4 ≡ bit_and b 0x0F
extended-byte = rule _ _ refl

pub register-byte : (b : ℕ) → b < 256 → low (field b 2 6) 6 * 4 ≡ bit_and b 0xFC
register-byte = rule _ _ refl

pub status-byte : (b : ℕ) → b < 256 → low (field b 5 3) 3 * 32 + flag (bit b 4) * 16 + low b 4 ≡ bit_and b 0xFF
status-byte = rule _ _ refl

pub lower-byte : (b : ℕ) → b < 256 → low (low b 7) 7 ≡ bit_and b 0x7F
lower-byte = rule _ _ refl
