-- Counts and words that were read, written again.
use Prim.Native.Nat.{ℕ, zero, suc, ◌+◌, ◌*◌, ◌/◌, ◌%◌, ◌^◌, ◌≤◌, ◌<◌}
use mathlib.Core.Path.{◌≡◌, refl, ap, ◌∙◌}
use mathlib.Core.Bool.{Bool, true, false}
use mathlib.Core.List.{List, [], ◌∷◌, ◌++◌}
use native.Mathlib.Nat.{mod-eq_of_lt, mod_self, mul-div_cancel, zero-lt-suc, pos_of_ne-zero}
use native.Mathlib.Numerals.{add-one}
use native.Mathlib.Omega.{arith}
use lib.Bits.{bit_and}
use lib.Dec.{eqb}
use lib.ListN.{length, take, drop, replicate}
use lib.Seq.{drop-cons}
use borrow.Author.Tests.{eqb-true, eqb-false, le-leb}
use Rattle.bits.specs.Choice.{pick}
use Rattle.bits.specs.Word.{byte, word, bytes, Bytes}
use Rattle.bits.proofs.WordLaws.{word_split, word_lt, bytes-word-at, bytes-snoc}
use Rattle.tlp.specs.Sizes.{or_most}
use Rattle.tlp_writable.specs.Given.{outside}
use Rattle.tlp_demands.proofs.ReadMasks.{under, whole-byte, address-byte}

-- ---- a count of two bytes, with 0 for the largest

-- n is written in the bytes h and l, of which h is below top
pub record Count (top h l n : ℕ) : Type 0 where
  pub high : n / 256 % top ≡ h
  pub low : n % 256 ≡ l
  pub some : 1 ≤ n
  pub most : n ≤ top * 256

count_by : (top h l : ℕ) → h < top → l < 256 → (b : Bool) → eqb (h * 256 + l) 0 ≡ b → Count top h l (pick b (top * 256) (h * 256 + l))
count_by top h l hh hl true e =
    let z : h * 256 + l ≡ 0 = eqb-true _ _ e in
    record {
      high = rw (mul-div_cancel top (zero-lt-suc 255), mod_self top) (omega arith);
      low = omega arith;
      some = omega arith;
      most = omega arith;
    }
count_by top h l hh hl false e =
    let q : (h * 256 + l) / 256 ≡ h = omega arith in
    record {
      high = rw q (mod-eq_of_lt hh);
      low = omega arith;
      some = pos_of_ne-zero (eqb-false (h * 256 + l) 0 e);
      most = omega arith;
    }

pub count : (top h l : ℕ) → h < top → l < 256 → Count top h l (or_most (top * 256) (h * 256 + l))
unfolding or_most
count top h l hh hl = count_by top h l hh hl _ refl

pub count-inside : {top h l n : ℕ} → Count top h l n → outside (top * 256) n ≡ false
count-inside {top} {h} {l} {n} c = rw (le-leb 1 n c.some, le-leb n (top * 256) c.most)

-- ---- words

module _ (s : List ℕ) (small : Bytes s) where
  taken-under : (k i : ℕ) → i + k ≤ length s → take k (drop i s) ≡ under (replicate k 0xFF) i s
  taken-under zero i h = refl
  taken-under (suc k) i h =
      rw (drop-cons s i 0 (omega arith), ← add-one i, ← whole-byte (byte s i) (small i)) (ap (λ (l : List ℕ). byte s i ∷ l) (taken-under k (i + 1) (omega arith)))

  pub word_small : (k i : ℕ) → word k s i < 256 ^ k
  word_small k i = word_lt k s i (λ j l. small j)

  -- a word's bytes are those that it was read from
  pub word-under : (k i : ℕ) → i + k ≤ length s → bytes k (word k s i) ≡ under (replicate k 0xFF) i s
  word-under k i h = bytes-word-at k s i h (λ j l. small j) ∙ taken-under k i h

-- the bytes of an address, whose low two bits are cleared
pub address-under : (s : List ℕ) (small : Bytes s) (k i : ℕ) → i + (k + 1) ≤ length s
    → bytes (k + 1) (word (k + 1) s i / 4 * 4) ≡ under (replicate k 0xFF) i s ++ (bit_and (byte s (i + k)) 0xFC ∷ [])
address-under s small k i h =
    let x = word k s i in
    let b = byte s (i + k) in
    let hb : b < 256 = small (i + k) in
    let e : word (k + 1) s i / 4 * 4 ≡ x * 256 + b / 4 * 4 = omega (arith, word_split k 1 s i) in
    rw (e, bytes-snoc k x (b / 4 * 4) (word_small s small k i) (omega arith), word-under s small k i (omega arith), address-byte b hb)
