-- One law for each return of the code.
use Prim.Native.Nat.{ℕ, ◌+◌, ◌-◌, ◌*◌, ◌%◌, ◌^◌, ◌≤◌, ◌<◌}
use mathlib.Core.Path.{◌≡◌, sym, ◌∙◌}
use mathlib.Core.Bool.{Bool, true, false}
use native.Mathlib.Nat.{mod-eq_of_lt, zero-div, lt_of_lt_of_le}
use lib.Pow.{pow_mono, pow_pos}
use Rattle.bits.specs.Count.{clear_below}
use Rattle.bits.specs.Field.{bit, low}
use Rattle.reads_words.specs.TagSets.{with_bit, without_bit, without_lowest}
use Rattle.reads_words.proofs.BitLaws.{bit-fits, bit_le, bit-room}
use Rattle.reads_words.proofs.LowestLaws.{lowest-below, lowest-in}

-- ---- a bit of a word

module _ (w b : ℕ) (r : Bool) (e : r ≡ bit w b) where
  pub set_here : r ≡ true → w ≡ with_bit w b
  unfolding with_bit
  set_here h = rw (← e, h)

  pub room-here : b < 64 → w < 2 ^ 64 → r ≡ false → w + 1 * 2 ^ b % 18446744073709551616 < 18446744073709551616
  room-here k l h = rw (bit-fits b k) (bit-room w b (sym e ∙ h) l k)

  pub set-now : b < 64 → r ≡ false → w + 1 * 2 ^ b % 18446744073709551616 ≡ with_bit w b
  unfolding with_bit
  set-now k h = rw (bit-fits b k, ← e, h)

  pub bit-under : b < 64 → r ≡ true → 1 * 2 ^ b % 18446744073709551616 ≤ w
  bit-under k h = rw (bit-fits b k) (bit_le w b (sym e ∙ h))

  pub cleared-now : b < 64 → r ≡ true → w - 1 * 2 ^ b % 18446744073709551616 ≡ without_bit w b
  unfolding without_bit
  cleared-now k h = rw (bit-fits b k, ← e, h)

  pub clear-here : r ≡ false → w ≡ without_bit w b
  unfolding without_bit
  clear-here h = rw (← e, h)

-- ---- a word of a set

pub low-all : (w n : ℕ) → w < 2 ^ 64 → 64 ≤ n → w ≡ low w n
low-all w n h k = sym (mod-eq_of_lt (lt_of_lt_of_le h (pow_mono k)))

pub low-pow : (w n : ℕ) → n < 64 → w % (1 * 2 ^ n % 18446744073709551616) ≡ low w n
low-pow w n h = rw (bit-fits n h)

pub pow-some : (n : ℕ) → n < 64 → 0 < 1 * 2 ^ n % 18446744073709551616
pow-some n h = rw (bit-fits n h) (pow_pos n)

module _ (w b : ℕ) (e : b ≡ clear_below 64 w) (h : w ≡ 0 → ⊥) (l : w < 2 ^ 64) where
  pub lowest-lt : b < 64
  lowest-lt = rw e (lowest-below w h l)

  pub lowest-under : 1 * 2 ^ b % 18446744073709551616 ≤ w
  lowest-under = rw (bit-fits b lowest-lt, e) (bit_le w (clear_below 64 w) (lowest-in w h l))

  pub lowest-gone : w - 1 * 2 ^ b % 18446744073709551616 ≡ without_lowest w
  unfolding without_lowest without_bit
  lowest-gone = rw (bit-fits b lowest-lt, e, lowest-in w h l)

pub none-lowest : (w : ℕ) → w ≡ 0 → 0 ≡ without_lowest w
unfolding without_lowest without_bit
none-lowest w h = rw (h, zero-div (2 ^ clear_below 64 0))

pub ruleset lowest-laws = (low-all, low-pow, pow-some, lowest-lt, lowest-under, lowest-gone, none-lowest)

pub ruleset set-laws = (set_here, room-here, set-now, bit-under, cleared-now, clear-here)
