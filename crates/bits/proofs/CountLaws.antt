-- What the machine counts of a number's bits is what the definitions count of a field of w bits.
use mathlib.Core.Path.{◌≡◌, refl, sym, ap, ◌∙◌}
use mathlib.Core.Bool.{Bool, true, false}
use mathlib.Core.Logic.{◌⊎◌, inl, inr, ⊎_elim}
use Prim.Native.Nat.{ℕ, zero, suc, min, ◌+◌, ◌-◌, ◌*◌, ◌/◌, ◌%◌, ◌^◌, ◌≤◌, ◌<◌}
use native.Mathlib.Nat.{eq-zero-or-pos, mod-eq_of_lt, mod-lt, mod-one, div-one, pow-suc, zero-add, zero-mul, le-suc, lt-div-mul-add, div-mul-le_self, lt_of_not-le, not-le_of_lt, lt_of_le_of_lt, lt_of_lt_of_le, min-zero, zero-min, suc-min-suc}
use native.Mathlib.Decide.{le_ind}
use native.Mathlib.Numerals.{add-one, one-add}
use native.Mathlib.Omega.{arith}
use lib.Arith.{lt-one}
use lib.Dec.{eqb}
use lib.Pow.{pow_mono, pow_pos, shr_lt, shr-shr, mod-pow-add}
use lib.Count.{count_leading_zeros, count_trailing_zeros, under, leading_length, leading_top, leading_unique, ones, ones_cat}
use Rattle.bits.specs.Choice.{pick}
use Rattle.bits.specs.Count.{clear_below, clear_above, set_bits}
use Rattle.bits.specs.Field.{bit}

two_cases : (n : ℕ) → (n % 2 ≡ 0) ⊎ (n % 2 ≡ 1)
two_cases n = ⊎_elim (λ e. inl e) (λ q. inr (omega arith)) (eq-zero-or-pos (n % 2))

under-pick : (d t : ℕ) → d < 2 → under d t ≡ pick (eqb d 1) 0 (suc t)
under-pick zero t h = refl
under-pick (suc zero) t h = refl
under-pick (suc (suc d)) t h = absurd (omega arith)

pub trailing_below : (w x : ℕ) → count_trailing_zeros w x ≡ clear_below w x
unfolding count_trailing_zeros clear_below
trailing_below zero x = refl
trailing_below (suc w) x = rw (div-one x, trailing_below w (x / 2)) (under-pick (x % 2) _ (omega arith))

-- a bit but the lowest, in what is above the lowest
bit_up : (x i : ℕ) → bit x (suc i) ≡ bit (x / 2) i
bit_up x i = rw (← one-add i, ← shr-shr x 1 i)

-- where some of the w bits is set, the bit above the clear ones is
pub below_set : (w x : ℕ) → clear_below w x < w → bit x (clear_below w x) ≡ true
unfolding clear_below
below_set zero x h = absurd (omega arith)
below_set (suc w) x h = go (bit x 0) refl h (below_set w (x / 2))
  where
    go : (b : Bool) → bit x 0 ≡ b → pick b 0 (suc (clear_below w (x / 2))) < suc w → (clear_below w (x / 2) < w → bit (x / 2) (clear_below w (x / 2)) ≡ true)
        → bit x (pick b 0 (suc (clear_below w (x / 2)))) ≡ true
    go true e l i = e
    go false e l i = bit_up x (clear_below w (x / 2)) ∙ i (omega arith)

half_lt : (k n : ℕ) → n < 2 ^ suc k → n / 2 < 2 ^ k
half_lt k n h = shr_lt k 1 (rw add-one h)

-- the zeros below in the j low bits, by those of a greater width
pub trailing-least : (j k x : ℕ) → j ≤ k → min (count_trailing_zeros k x) j ≡ count_trailing_zeros j x
unfolding count_trailing_zeros
trailing-least zero k x l = min-zero _
trailing-least (suc j) zero x l = absurd (omega arith)
trailing-least (suc j) (suc k) x l =
    ⊎_elim (λ e. rw e (suc-min-suc _ _ ∙ ap suc (trailing-least j k (x / 2) (omega arith)))) (λ e. rw e (zero-min _)) (two_cases x)

-- a number of j bits that is not 0 has as many zeros below at any greater width
below_more : (k n : ℕ) → 0 < n → n < 2 ^ k → count_trailing_zeros (suc k) n ≡ count_trailing_zeros k n
unfolding count_trailing_zeros
below_more zero n p h = absurd (omega (arith, lt-one h))
below_more (suc k) n p h =
    ⊎_elim (λ e. rw e (ap suc (below_more k (n / 2) (omega arith) (half_lt k n h)))) (λ e. rw e refl) (two_cases n)

pub trailing_narrow : (j k x : ℕ) → j ≤ k → 0 < x → x < 2 ^ j → count_trailing_zeros k x ≡ count_trailing_zeros j x
trailing_narrow j k x l p h =
    le_ind (λ (m : ℕ). count_trailing_zeros m x ≡ count_trailing_zeros j x) refl
    (λ m q e. below_more m x p (lt_of_lt_of_le h (pow_mono q)) ∙ e) k l

-- a number of j bits has k - j zeros more above at the width k
pub leading_narrow : (j k x : ℕ) → j ≤ k → x < 2 ^ j → count_leading_zeros k x ≡ count_leading_zeros j x + (k - j)
leading_narrow j k x l h =
    let s = leading_length j x h in
    sym (leading_unique k x (count_leading_zeros j x + (k - j)) s.0 (omega (arith, s.1)) s.2 s.3)

-- the highest bit q is set, or the count goes on below it
above-pick : (w x q t : ℕ) → x / 2 ^ w ≡ q → q < 2 → x < 2 ^ suc w → (x < 2 ^ w → count_leading_zeros w x ≡ t)
    → count_leading_zeros (suc w) x ≡ pick (eqb (q % 2) 1) 0 (suc t)
above-pick w x zero t e l h rest =
    let s : x < 2 ^ w = simp (e, zero-mul, zero-add) at (lt-div-mul-add {a = x} (pow_pos w)) in
    omega (arith, leading_narrow w (suc w) x (le-suc w) s, rest s)
above-pick w x (suc zero) t e l h rest =
    let s : 1 * 2 ^ w ≤ x = rw e at (div-mul-le_self x (2 ^ w)) in
    sym (leading_unique (suc w) x 0 (suc w) (zero-add (suc w)) h (omega (arith, pow-suc 2 w)))
above-pick w x (suc (suc q)) t e l h rest = absurd (omega arith)

pub leading-above : (w x : ℕ) → x < 2 ^ w → count_leading_zeros w x ≡ clear_above w x
unfolding count_leading_zeros clear_above
leading-above zero x h = refl
leading-above (suc w) x h = above-pick w x (x / 2 ^ w) (clear_above w x) refl (shr_lt 1 w (rw one-add h)) h (leading-above w x)

-- the w low bits of any number, counted
one_bit : (d : ℕ) → d < 2 → ones d ≡ d
unfolding ones
one_bit zero h = refl
one_bit (suc zero) h = refl
one_bit (suc (suc d)) h = absurd (omega arith)

pub ones_low : (w x : ℕ) → ones (x % 2 ^ w) ≡ set_bits w x
unfolding ones set_bits
ones_low zero x = rw mod-one
ones_low (suc w) x =
    rw (← one-add w, mod-pow-add x 1 w, ones_cat w (x / 2 ^ w % 2) (x % 2 ^ w) (mod-lt x (pow_pos w)), one_bit (x / 2 ^ w % 2) (omega arith), ones_low w x)

pub ones-set : (w x : ℕ) → x < 2 ^ w → ones x ≡ set_bits w x
ones-set w x h = ap ones (sym (mod-eq_of_lt h)) ∙ ones_low w x

-- of a number that is not 0, one bit at least stands between the clear bits below and those above
trailing-power : (w x : ℕ) → 0 < x → x < 2 ^ w → 2 ^ count_trailing_zeros w x ≤ x
unfolding count_trailing_zeros
trailing-power zero x p h = absurd (omega (arith, lt-one h))
trailing-power (suc w) x p h =
    ⊎_elim (λ e. rw e (omega (arith, pow-suc 2 (count_trailing_zeros w (x / 2)), trailing-power w (x / 2) (omega arith) (half_lt w x h)))) (λ e. rw e p) (two_cases x)

pub below-above : (w x : ℕ) → 0 < x → x < 2 ^ w → clear_below w x + clear_above w x < w
below-above w x p h =
    let t = leading_top w x p h in
    let l : count_trailing_zeros w x < suc t.0 = lt_of_not-le (λ g. not-le_of_lt (lt_of_le_of_lt (trailing-power w x p h) t.3) (pow_mono g)) in
    rw (← trailing_below w x, ← leading-above w x h) (omega (arith, t.1))

pub below-lt : (w x : ℕ) → 0 < x → x < 2 ^ w → clear_below w x < w
below-lt w x p h = omega (arith, below-above w x p h)
