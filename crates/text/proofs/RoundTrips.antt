-- What is printed is read back.
use Rattle.std.proofs.Common.{◌≡◌, ℕ, zero, suc, ◌+◌, ◌*◌, ◌/◌, ◌%◌, ◌^◌, ◌<◌, ◌≤◌, true, false, ltb, List, [], ◌∷◌, ◌++◌, length, get_or, sym, refl, ◌∙◌, ⊎_elim, suc-le-suc, lt_of_lt_of_le, mod-lt, mod-eq_of_lt, zero-lt-suc, div-lt_iff_lt-mul, pow-suc, div-add-mod', le-div_iff_mul-le, arith, le-ltb, lt-ltb, eq-eqb, ne_eqb, le-leb, Some}
use native.Mathlib.Nat.{pow-zero}
use lib.Arith.{lt-one}
use lib.ListN.{get_or-append}
use Rattle.bits.proofs.WordLaws.{AllBytes}
use Rattle.text.specs.Digit.{hex_value, hex_digit, all_digits}
use Rattle.text.specs.Number.{value_from, value, plain, plainly, empty, number_in, digits, count_to, digit_count, plain_text}
use Rattle.text.specs.Hex.{hex_number, hex_plain, hex_plain_text, pairs, bytes_spelled, hex_text}
use Rattle.text.specs.Decimal.{decimal_number, decimal_text}
use Rattle.text.proofs.Order.{lt-or-le, and_left, and_right, and_both}
use Rattle.text.proofs.DigitLaws.{value-digit}
use Rattle.text.proofs.NumberLaws.{length_digits, shorter, one_power, in-64, plain-short, plain-first}
use Rattle.text.proofs.HexLaws.{length-text}

-- ---- one digit more at the end

value-append : (base v b : ℕ) (text : List ℕ) → value_from base v (text ++ (b ∷ [])) ≡ value_from base v text * base + hex_value b
unfolding value_from
value-append base v b [] = refl
value-append base v b (c ∷ text) = value-append base (v * base + hex_value c) b text

digits_append : (base b : ℕ) (text : List ℕ) → all_digits base text ≡ true → hex_value b < base → all_digits base (text ++ (b ∷ [])) ≡ true
unfolding all_digits
digits_append base b [] a h = rw (lt-ltb (hex_value b) base h)
digits_append base b (c ∷ text) a h =
    let t = ltb (hex_value c) base in
    and_both t (all_digits base (text ++ (b ∷ []))) (and_left t (all_digits base text) a) (digits_append base b text (and_right t (all_digits base text) a) h)

some-digit : (text : List ℕ) → 0 < length text → empty text ≡ false
unfolding empty
some-digit [] h = absurd (omega arith)
some-digit (b ∷ text) h = refl

-- ---- as many digits as the number has

module _ (base : ℕ) (p : 1 < base) where
  -- they are enough for the number
  pub count-power : (k n : ℕ) → n < base ^ k → n < base ^ count_to base k n
  unfolding count_to
  count-power zero n h = h
  count-power (suc k) n h =
      ⊎_elim
      (λ (g : n < base). rw (lt-ltb n base g, one_power base p) g)
      (λ (g : base ≤ n).
      rw (le-ltb n base g, pow-suc base (count_to base k (n / base)))
      ((div-lt_iff_lt-mul {k = base} {x = n} {y = base ^ count_to base k (n / base)} (omega arith)).0 (count-power k (n / base) (shorter base p k n h))))
      (lt-or-le n base)

  -- and not more than it needs
  pub count-le : (k j n : ℕ) → n < base ^ suc j → count_to base k n ≤ suc j
  unfolding count_to
  count-le zero j n h = omega arith
  count-le (suc k) zero n h = rw (lt-ltb n base (rw (one_power base p) at h)) (omega arith)
  count-le (suc k) (suc j) n h =
      ⊎_elim
      (λ (g : n < base). rw (lt-ltb n base g) (omega arith))
      (λ (g : base ≤ n). rw (le-ltb n base g) (suc-le-suc (count-le k j (n / base) (shorter base p (suc j) n h))))
      (lt-or-le n base)

  count-pos : (k n : ℕ) → 0 < n → n < base ^ k → 0 < count_to base k n
  unfolding count_to
  count-pos zero n l h = absurd (omega (arith, rw (pow-zero base) at h))
  count-pos (suc k) n l h = zero-lt-suc _

  pub count-one : (n : ℕ) → n < base → digit_count base n ≡ 1
  unfolding count_to
  count-one n h = rw (lt-ltb n base h)

  digits-full : (k n : ℕ) → 0 < k → empty (digits base k n) ≡ false
  digits-full k n h = some-digit (digits base k n) (rw (← length_digits base k n) h)

  module _ (q : base ≤ 16) where
    -- the last digit of a number
    last-digit : (n : ℕ) → hex_value (hex_digit (n % base)) ≡ n % base
    last-digit n = value-digit (n % base) ∙ mod-eq_of_lt (lt_of_lt_of_le (mod-lt n (omega arith)) q)

    pub digits-good : (k n : ℕ) → all_digits base (digits base k n) ≡ true
    unfolding digits all_digits
    digits-good zero n = refl
    digits-good (suc k) n =
        digits_append base (hex_digit (n % base)) (digits base k (n / base)) (digits-good k (n / base))
        (rw (last-digit n) (mod-lt n (omega arith)))

    digits_value : (k n : ℕ) → n < base ^ k → value base (digits base k n) ≡ n
    unfolding digits value_from
    digits_value zero n h = sym (lt-one (rw (pow-zero base) at h))
    digits_value (suc k) n h =
        rw (value-append base 0 (hex_digit (n % base)) (digits base k (n / base)), digits_value k (n / base) (shorter base p k n h), last-digit n) (div-add-mod' n base)

    first-digit : (k n : ℕ) → n < base ^ k → 0 < n → hex_value (get_or (digits base (count_to base k n) n) 0 0) ≡ 0 → ⊥
    unfolding count_to digits
    first-digit zero n h l e = absurd (omega (arith, rw (pow-zero base) at h))
    first-digit (suc k) n h l e =
        ⊎_elim
        (λ (g : n < base).
        let z : hex_value (hex_digit (n % base)) ≡ 0 = rw (lt-ltb n base g) at e in
        omega (arith, last-digit n, mod-eq_of_lt g))
        (λ (g : base ≤ n).
        let m = n / base in
        let less : m < base ^ k = shorter base p k n h in
        let d : 0 < m = (le-div_iff_mul-le {k = base} {x = 1} {y = n} (omega arith)).1 (omega arith) in
        let z : hex_value (get_or (digits base (count_to base k m) m ++ (hex_digit (n % base) ∷ [])) 0 0) ≡ 0 = rw (le-ltb n base g) at e in
        first-digit k m less d (rw (get_or-append (digits base (count_to base k m) m) (hex_digit (n % base) ∷ []) 0 0 (rw (← length_digits base (count_to base k m) m) (count-pos k m d less))) at z))
        (lt-or-le n base)

    plain-digits : (n : ℕ) → n < 2 ^ 64 → plain (plain_text base n) ≡ true
    plain-digits n g =
        let text = plain_text base n in
        ⊎_elim
        (λ (h : length text < 2). sym (plain-short text h))
        (λ (h : 2 ≤ length text).
        let l : base ≤ n = ⊎_elim (λ (k : n < base). absurd (omega (arith, count-one n k, length_digits base (digit_count base n) n))) (λ k. k) (lt-or-le n base) in
        sym (plain-first text (hex_value (get_or text 0 0)) h refl)
        ∙ rw (ne_eqb (hex_value (get_or text 0 0)) 0 (first-digit 64 n (in-64 base p n g) (omega arith))))
        (lt-or-le (length text) 2)

count-some : (base n : ℕ) → 0 < digit_count base n
unfolding count_to
count-some base n = zero-lt-suc _

-- ---- numbers

pub decimal-trip : (most n : ℕ) → n ≤ most → n < 2 ^ 64 → decimal_number most (decimal_text n) ≡ Some n
unfolding plainly number_in
decimal-trip most n h l =
    let p : 1 < 10 = omega arith in
    let q : 10 ≤ 16 = omega arith in
    let k = digit_count 10 n in
    rw (
      plain-digits 10 p q n l,
      digits-full 10 p k n (count-some 10 n),
      digits-good 10 p q k n,
      digits_value 10 p q k n (count-power 10 p 64 n (in-64 10 p n l)),
      le-leb n most h,
    )

-- w digits, leading zeros among them
pub hex-fixed-trip : (w n : ℕ) → 0 < w → w ≤ 16 → n < 16 ^ w → hex_number (digits 16 w n) ≡ Some n
unfolding hex_number
hex-fixed-trip w n l h g =
    let p : 1 < 16 = omega arith in
    let q : 16 ≤ 16 = omega arith in
    rw (
      digits-full 16 p w n l,
      le-leb (length (digits 16 w n)) 16 (rw (← length_digits 16 w n) h),
      digits-good 16 p q w n,
      digits_value 16 p q w n g,
    )

pub hex-plain-trip : (n : ℕ) → n < 2 ^ 64 → hex_plain (hex_plain_text n) ≡ Some n
unfolding plainly
hex-plain-trip n h =
    let p : 1 < 16 = omega arith in
    let q : 16 ≤ 16 = omega arith in
    rw (plain-digits 16 p q n h)
    (hex-fixed-trip (digit_count 16 n) n (count-some 16 n) (count-le 16 p 64 15 n h) (count-power 16 p 64 n (in-64 16 p n h)))

-- ---- bytes

pairs-text : (bytes : List ℕ) → AllBytes bytes → pairs (hex_text bytes) ≡ bytes
unfolding pairs hex_text
pairs-text [] small = refl
pairs-text (b ∷ bytes) small =
    let h : b < 256 = small 0 (zero-lt-suc _) in
    let e : hex_value (hex_digit (b / 16)) * 16 + hex_value (hex_digit b) ≡ b = rw (value-digit (b / 16), value-digit b) (omega arith) in
    rw (e, pairs-text bytes (λ i l. small (suc i) (suc-le-suc l)))

text-digits : (bytes : List ℕ) → all_digits 16 (hex_text bytes) ≡ true
unfolding all_digits hex_text
text-digits [] = refl
text-digits (b ∷ bytes) = rw (value-digit (b / 16), value-digit b, lt-ltb (b / 16 % 16) 16 (omega arith), lt-ltb (b % 16) 16 (omega arith)) (text-digits bytes)

pub bytes-trip : (bytes : List ℕ) → AllBytes bytes → bytes_spelled (hex_text bytes) ≡ Some bytes
unfolding bytes_spelled
bytes-trip bytes small = rw (eq-eqb (length (hex_text bytes) % 2) 0 (omega (arith, length-text bytes)), text-digits bytes, pairs-text bytes small)
