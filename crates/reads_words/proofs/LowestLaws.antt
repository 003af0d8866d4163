-- The lowest tag of a word, the word without it, and the words of a set below a limit.
use Prim.Native.Nat.{ℕ, ◌+◌, ◌-◌, ◌*◌, ◌/◌, ◌%◌, ◌^◌, ◌≤◌, ◌<◌}
use mathlib.Core.Path.{◌≡◌, sym, ◌∙◌}
use mathlib.Core.Bool.{true, false}
use mathlib.Core.List.{List}
use native.Mathlib.Omega.{arith}
use lib.ListN.{get_or}
use lib.Pow.{pow_pos}
use Rattle.bits.specs.Count.{clear_below}
use Rattle.bits.specs.Field.{bit}
use Rattle.bits.proofs.CountLaws.{below-lt, below_set}
use Rattle.bits.proofs.FieldLaws.{bit-low, bit-over}
use Rattle.reads_words.specs.Capacity.{capacity}
use Rattle.reads_words.specs.TagSets.{without_bit, without_lowest, contains, word_below}
use Rattle.reads_words.proofs.SetLaws.{contains-in}
use Rattle.reads_words.proofs.BitLaws.{bit_le, without-same, without_other}

module _ (w : ℕ) (h : w ≡ 0 → ⊥) (l : w < 2 ^ 64) where
  pub lowest-below : clear_below 64 w < 64
  lowest-below = below-lt 64 w (omega arith) l

  pub lowest-in : bit w (clear_below 64 w) ≡ true
  lowest-in = below_set 64 w lowest-below

  pub lowest-out : bit (without_lowest w) (clear_below 64 w) ≡ false
  unfolding without_lowest
  lowest-out = without-same w (clear_below 64 w)

  pub lowest-other : (b : ℕ) → (b ≡ clear_below 64 w → ⊥) → bit (without_lowest w) b ≡ bit w b
  unfolding without_lowest
  lowest-other = without_other w (clear_below 64 w)

  pub lowest-less : without_lowest w < w
  unfolding without_lowest without_bit
  lowest-less =
      let p = pow_pos (clear_below 64 w) in
      let m = bit_le w (clear_below 64 w) lowest-in in
      rw lowest-in (omega arith)

-- ---- a word of a set, cut at a limit

module _ (ws : List ℕ) (j limit b : ℕ) (k : b < 64) where
  pub word_in : j < capacity / 64 → 64 * j + b < limit → bit (word_below (get_or ws j 0) (64 * j) limit) b ≡ contains ws (64 * j + b)
  unfolding word_below
  word_in r h =
      let q : (64 * j + b) / 64 ≡ j = omega arith in
      let m : (64 * j + b) % 64 ≡ b = omega arith in
      bit-low (get_or ws j 0) (limit - 64 * j) b (omega arith) ∙ sym (contains-in ws (64 * j + b) (omega arith) ∙ rw (q, m))

  pub word_over : limit ≤ 64 * j + b → bit (word_below (get_or ws j 0) (64 * j) limit) b ≡ false
  unfolding word_below
  word_over h = bit-over (get_or ws j 0) (limit - 64 * j) b (omega arith)
