-- Numbers in a base: one law for each place of the code that reads or prints one.
use Rattle.std.proofs.Common.{◌≡◌, ℕ, zero, suc, ◌+◌, ◌-◌, ◌*◌, ◌/◌, ◌%◌, ◌^◌, ◌<◌, ◌≤◌, Bool, true, false, not, ◌&&◌, eqb, ne_eqb, ltb, leb, List, [], ◌∷◌, ◌++◌, length, get_or, drop, set, sym, refl, ap, ◌∙◌, le_trans, le_refl, lt_of_lt_of_le, mod-lt, mod-eq_of_lt, div-lt_iff_lt-mul, mul-le-mul_left, pow-suc, div-le_self, add-one, arith, length-append, drop_of_length-le, drop-cons, ltb-false, ltb-true, le-ltb, lt-ltb, le-leb, Option, Some, None}
use mathlib.Core.Bool.{and-false, false≢true}
use native.Mathlib.Nat.{add-sub_cancel_left, div-lt_self, pow-zero, pow-le-pow_left, pow-le-pow_right}
use borrow.Author.Tests.{lt-leb}
use Rattle.bits.specs.Choice.{pick}
use Rattle.text.specs.Digit.{hex_value, hex_digit, all_digits}
use Rattle.bits.specs.Put.{put}
use Rattle.text.specs.Number.{value_from, plain, plainly, empty, number_in, digits, count_to, digit_count}
use Rattle.text.proofs.Order.{leb-iff}
use Rattle.text.proofs.PutLaws.{put_last, put-done}
use Rattle.text.proofs.DigitLaws.{digits-first}

-- ---- no leading zeros

pub plain-short : (text : List ℕ) → length text < 2 → true ≡ plain text
unfolding plain
plain-short [] h = refl
plain-short (b ∷ []) h = refl
plain-short (b ∷ c ∷ text) h = absurd (omega arith)

pub plain-first : (text : List ℕ) (d : ℕ) → 2 ≤ length text → d ≡ hex_value (get_or text 0 0) → not (eqb d 0) ≡ plain text
unfolding plain
plain-first [] d h e = absurd (omega arith)
plain-first (b ∷ []) d h e = absurd (omega arith)
plain-first (b ∷ c ∷ text) d h e = rw e

module _ (text : List ℕ) (p : Option ℕ) (r : Bool) (e : r ≡ plain text) where
  pub plain-no : r ≡ false → None ≡ plainly text p
  unfolding plainly
  plain-no h = rw (← e, h)

  pub plain-yes : (q : Option ℕ) → r ≡ true → q ≡ p → q ≡ plainly text p
  unfolding plainly
  plain-yes q h f = rw (← e, h) f

pub ruleset plain-laws = (plain-short, plain-first, plain-no, plain-yes)

-- ---- a number with one digit more

pub exceeds-digit : (v base d most : ℕ) → most < d → true ≡ ltb most (v * base + d)
exceeds-digit v base d most h = sym (lt-ltb most (v * base + d) (omega arith))

pub exceeds-rest : (v base d most : ℕ) → 0 < base → d ≤ most → ltb ((most - d) / base) v ≡ ltb most (v * base + d)
exceeds-rest v base d most p h =
    leb-iff (suc ((most - d) / base)) v (suc most) (v * base + d)
    (λ g. let k : most - d < v * base = (div-lt_iff_lt-mul p).0 g in omega arith)
    (λ g. (div-lt_iff_lt-mul p).1 (omega arith))

pub ruleset exceeds-laws = (exceeds-digit, exceeds-rest)

-- ---- reading

-- the number that text means after the number v, where it is digits and not above most
unfoldable pub number_from : ℕ → ℕ → ℕ → List ℕ → Option ℕ
number_from base most v text = pick (all_digits base text && leb (value_from base v text) most) (Some (value_from base v text)) None

pub value-le : (base v : ℕ) (text : List ℕ) → 0 < base → v ≤ value_from base v text
unfolding value_from
value-le base v [] p = le_refl v
value-le base v (b ∷ text) p = le_trans (omega (arith, mul-le-mul_left v p)) (value-le base (v * base + hex_value b) text p)

pub number-none : (base most : ℕ) (text : List ℕ) (r : Bool) → r ≡ eqb (length text) 0 → r ≡ true → None ≡ number_in base most text
unfolding number_in empty
number-none base most [] r e h = refl
number-none base most (b ∷ text) r e h = absurd (false≢true (sym (ne_eqb (length (b ∷ text)) 0 (λ q. omega arith)) ∙ (sym e ∙ h)))

pub number-start : (base most : ℕ) (text : List ℕ) (r : Bool) → r ≡ eqb (length text) 0 → r ≡ false → number_from base most 0 text ≡ number_in base most text
unfolding number_in empty number_from
number-start base most [] r e h = absurd (false≢true (sym h ∙ e))
number-start base most (b ∷ text) r e h = refl

module _ (base most v i : ℕ) (text : List ℕ) (t : Option ℕ) (n : number_from base most v (drop i text) ≡ t) where
  pub number-done : length text ≤ i → v ≤ most → Some v ≡ t
  unfolding number_from all_digits value_from
  number-done h l = rw (drop_of_length-le text h, le-leb v most l) at n

  module _ (d : ℕ) (e : d ≡ hex_value (get_or text i 0)) (h : i < length text) where
    value-first : value_from base v (drop i text) ≡ value_from base (v * base + d) (drop (i + 1) text)
    unfolding value_from
    value-first = rw (drop-cons text i 0 h, add-one i, e)

    pub number-digit : base ≤ d → None ≡ t
    unfolding number_from
    number-digit l = rw (digits-first base i text h, ← e, le-ltb d base l) at n

    module _ (l : d < base) (x : Bool) (f : x ≡ ltb most (v * base + d)) where
      pub number-above : 1 < base → x ≡ true → None ≡ t
      unfolding number_from
      number-above p g =
          rw (
            digits-first base i text h,
            ← e,
            lt-ltb d base l,
            value-first,
            lt-leb (value_from base (v * base + d) (drop (i + 1) text)) most (lt_of_lt_of_le (ltb-true most (v * base + d) (sym f ∙ g)) (value-le base (v * base + d) (drop (i + 1) text) (omega arith))),
            and-false (all_digits base (drop (i + 1) text)),
          ) at n

      pub number-next : x ≡ false → number_from base most (v * base + d) (drop (i + 1) text) ≡ t
      unfolding number_from
      number-next g = rw (digits-first base i text h, ← e, lt-ltb d base l, value-first) at n

pub number-most : (x : Bool) (m most : ℕ) → x ≡ ltb most m → x ≡ false → m ≤ most
number-most x m most e f = ltb-false most m (sym e ∙ f)

-- what the code adds and multiplies fits where most does
module _ (x : Bool) (v base d most : ℕ) (e : x ≡ ltb most (v * base + d)) (f : x ≡ false) (l : most < 2 ^ 64) where
  pub number_fits : v * base + d < 2 ^ 64
  number_fits = omega (arith, number-most x (v * base + d) most e f)

  pub product-fits : v * base < 2 ^ 64
  product-fits = omega (arith, number-most x (v * base + d) most e f)

pub ruleset fits-laws = (number_fits, product-fits)

pub ruleset number-laws = (number-none, number-start, number-done, number-digit, number-above, number-next, number-most)

-- ---- printing

pub length_digits : (base k n : ℕ) → k ≡ length (digits base k n)
unfolding digits
length_digits base zero n = refl
length_digits base (suc k) n = rw (length-append (digits base k (n / base)) (hex_digit (n % base) ∷ []), ← length_digits base k (n / base), add-one k)

-- what is left to lay, as the code counts down from index at + w to index at

pub lay-start : (base w at n : ℕ) (out : List ℕ) → put at (digits base (at + w - at) n) out ≡ put at (digits base w n) out
lay-start base w at n out = rw (add-sub_cancel_left at w)

lay-last : (at j d : ℕ) (src out whole : List ℕ) → j ≡ at + length src → j < length out → put at (src ++ (d ∷ [])) out ≡ whole → put at src (set out j d) ≡ whole
lay-last at j d src out whole e h q = rw (e, put_last at d src out (omega arith)) q

module _ (base w at i m : ℕ) (out whole : List ℕ) (q : put at (digits base (i - at) m) out ≡ whole) where
  pub lay_done : i ≤ at → out ≡ whole
  unfolding digits
  lay_done l =
      let r : i - at ≡ 0 = omega arith in
      sym (put-done at out) ∙ (rw r at q)

  pub lay-next : (d : ℕ) (out₀ : List ℕ) → 0 < base → base ≤ 16 → at < i → i ≤ at + w → at + w ≤ length out₀ → length out ≡ length out₀ → d ≡ hex_digit (m % base % 16)
      → put at (digits base (i - 1 - at) (m / base)) (set out (i - 1) d) ≡ whole
  unfolding digits
  lay-next d out₀ p b h l g z e =
      let k = i - 1 - at in
      let r : i - at ≡ suc k = omega arith in
      let f : d ≡ hex_digit (m % base) = e ∙ ap hex_digit (mod-eq_of_lt (lt_of_lt_of_le (mod-lt m p) b)) in
      lay-last at (i - 1) d (digits base k (m / base)) out whole (omega (arith, length_digits base k (m / base))) (omega arith) (rw f (rw r at q))

pub ruleset lay-laws = (lay-start, lay_done, lay-next)

-- how many digits

module _ (base : ℕ) (p : 1 < base) where
  -- one digit fewer
  pub shorter : (k n : ℕ) → n < base ^ suc k → n / base < base ^ k
  shorter k n h = (div-lt_iff_lt-mul {k = base} {x = n} {y = base ^ k} (omega arith)).1 (rw (pow-suc base k) at h)

  pub one_power : base ^ 1 ≡ base
  one_power = rw (pow-suc base 0, pow-zero base) (omega arith)

  -- any limit that n stays within
  count-limit : (j k n : ℕ) → n < base ^ suc j → n < base ^ suc k → count_to base (suc j) n ≡ count_to base (suc k) n
  unfolding count_to
  count-limit zero k n h l = rw (lt-ltb n base (rw one_power at h))
  count-limit (suc j) zero n h l = rw (lt-ltb n base (rw one_power at l))
  count-limit (suc j) (suc k) n h l = rw (count-limit j k (n / base) (shorter (suc j) n h) (shorter (suc k) n l))

  pub in-64 : (n : ℕ) → n < 2 ^ 64 → n < base ^ 64
  in-64 n h = lt_of_lt_of_le h (pow-le-pow_left p 64)

  -- one law for each place of the code, which has counted k digits and has m left of n

  module _ (k m n : ℕ) (e : k + digit_count base m ≡ digit_count base n + 1) where
    pub count-done : m < base → k ≡ digit_count base n
    unfolding count_to
    count-done h =
        let f : k + 1 ≡ digit_count base n + 1 = rw (lt-ltb m base h) at e in
        omega arith

    pub count_next : base ≤ m → m ≤ n → n < 2 ^ 64 → k + 1 + digit_count base (m / base) ≡ digit_count base n + 1
    unfolding count_to
    count_next h l g =
        let f : digit_count base m ≡ suc (count_to base 63 (m / base)) = rw (le-ltb m base h) in
        let small : m / base < base ^ 63 = shorter 63 m (in-64 m (omega arith)) in
        omega (arith, count-limit 62 63 (m / base) small (lt_of_lt_of_le small (pow-le-pow_right (omega arith) (omega arith))))

  pub count-bound : (k m n : ℕ) → base ≤ m → k + m ≤ n + 1 → k + 1 + m / base ≤ n + 1
  count-bound k m n h e = omega (arith, div-lt_self {n = m} {k = base} (omega arith) p)

  pub count_less : (m : ℕ) → base ≤ m → m / base < m
  count_less m h = div-lt_self (omega arith) p

  pub count_left : (m n : ℕ) → m ≤ n → m / base ≤ n
  count_left m n h = le_trans (div-le_self m base) h

pub ruleset count-laws = (count-done, count_next, count-bound, count_less, count_left)
