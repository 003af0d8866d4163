-- What reads as a value is the text of that value: the converse of RoundTrips.
use Rattle.std.proofs.Common.{◌≡◌, ℕ, zero, suc, ◌+◌, ◌*◌, ◌/◌, ◌%◌, ◌^◌, ◌<◌, ◌≤◌, true, false, not, ◌&&◌, eqb, ltb, leb, List, [], ◌∷◌, ◌++◌, length, sym, refl, ap, ◌∙◌, ⊎_elim, append_assoc, append-nil, le_trans, mul-le-mul_right, mul_assoc, mul_comm, pow-suc, arith, ltb-true, eq-eqb, ne_eqb, eqb-true, leb-true, Some}
use mathlib.Core.Bool.{false≢true}
use native.Mathlib.Nat.{pow-zero, pow-le-pow_right}
use lib.Arith.{digits_div, digits_mod}
use borrow.Author.Tests.{not-true}
use Rattle.bits.proofs.WordLaws.{AllBytes}
use Rattle.text.specs.Digit.{hex_value, hex_digit, all_digits}
use Rattle.text.specs.Number.{value_from, value, plain, plainly, empty, number_in, digits, digit_count, plain_text}
use Rattle.text.specs.Hex.{hex_number, pairs, bytes_spelled, hex_text}
use Rattle.text.specs.Decimal.{decimal_number, decimal_text}
use Rattle.text.proofs.Order.{lt-or-le, and_left, and_right}
use Rattle.text.proofs.DigitLaws.{value-below, value-number, value-between, value-letter, value-above, digit-number, digit-letter}
use Rattle.text.proofs.NumberLaws.{in-64, one_power}
use Rattle.text.proofs.HexLaws.{value-lt}
use Rattle.text.proofs.RoundTrips.{count-power, count-le, count-one}
use Rattle.text.proofs.Bounds.{picked}

-- ---- one digit

-- the letter of a digit's value is that digit
pub digit_value : (n b : ℕ) → n % 16 ≡ hex_value b → hex_value b < 16 → hex_digit n ≡ b
digit_value n b e h =
    ⊎_elim
    (λ (l : b < 48). absurd (omega (arith, value-below b l)))
    (λ (l : 48 ≤ b).
    ⊎_elim
    (λ (k : b < 58).
    let v = value-number b l (omega arith) in
    sym (digit-number n (omega (arith, v))) ∙ omega (arith, v))
    (λ (k : 58 ≤ b).
    ⊎_elim
    (λ (m : b < 97). absurd (omega (arith, value-between b l (omega arith) m)))
    (λ (m : 97 ≤ b).
    ⊎_elim
    (λ (j : b < 103).
    let v = value-letter b (omega arith) m (omega arith) in
    sym (digit-letter n (omega (arith, v))) ∙ omega (arith, v))
    (λ (j : 103 ≤ b). absurd (omega (arith, value-above b (omega arith))))
    (lt-or-le b 103))
    (lt-or-le b 97))
    (lt-or-le b 58))
    (lt-or-le b 48)

-- a digit is not a space
pub digit-no-space : (b : ℕ) → hex_value b < 16 → eqb b 32 ≡ false
digit-no-space b h = ne_eqb b 32 (λ (e : b ≡ 32). omega (arith, value-below b (omega arith)))

-- ---- digits of a base

module _ (base : ℕ) (p : 1 < base) (q : base ≤ 16) where
  digits_from : (k v : ℕ) (text : List ℕ) → all_digits base text ≡ true → digits base (length text + k) (value_from base v text) ≡ digits base k v ++ text
  unfolding all_digits value_from digits
  digits_from k v [] a =
      let z : 0 + k ≡ k = omega arith in
      rw z (sym (append-nil (digits base k v)))
  digits_from k v (b ∷ text) a =
      let d : hex_value b < base = ltb-true (hex_value b) base (and_left _ _ a) in
      let r : length (b ∷ text) + k ≡ length text + suc k = omega arith in
      let m : hex_digit (hex_value b) ≡ b = digit_value (hex_value b) b (omega arith) (omega arith) in
      rw r
      (digits_from (suc k) (v * base + hex_value b) text (and_right (ltb (hex_value b) base) _ a)
      ∙ rw (digits_div v d, digits_mod v d, m, append_assoc (digits base k v) (b ∷ []) text))

  -- as many digits of the value as there are
  pub digits-all : (text : List ℕ) → all_digits base text ≡ true → digits base (length text) (value base text) ≡ text
  unfolding digits
  digits-all text a =
      let z : length text + 0 ≡ length text = omega arith in
      rw z at (digits_from 0 0 text a)

  -- digits after v mean at least v, moved up
  value-ge : (v : ℕ) (text : List ℕ) → v * base ^ length text ≤ value_from base v text
  unfolding value_from
  value-ge v [] = rw (pow-zero base) (omega arith)
  value-ge v (b ∷ text) =
      let k : v * base * base ^ length text ≤ (v * base + hex_value b) * base ^ length text = mul-le-mul_right (base ^ length text) (omega arith) in
      le_trans (rw (pow-suc base (length text), mul_comm (base ^ length text) base, ← mul_assoc v base (base ^ length text)) k) (value-ge (v * base + hex_value b) text)

  -- a number has as many digits as it is written with after a first one that is not 0
  count-all : (b : ℕ) (text : List ℕ) → all_digits base (b ∷ text) ≡ true → 0 < hex_value b → value base (b ∷ text) < 2 ^ 64 → digit_count base (value base (b ∷ text)) ≡ length (b ∷ text)
  unfolding value_from
  count-all b text a f h =
      let n = value base (b ∷ text) in
      let c = digit_count base n in
      let u : c ≤ suc (length text) = count-le base p 64 (length text) n (omega (arith, value-lt base 0 (b ∷ text) a)) in
      let w : n < base ^ c = count-power base p 64 n (in-64 base p n h) in
      let g : 1 * base ^ length text ≤ (0 * base + hex_value b) * base ^ length text = mul-le-mul_right (base ^ length text) (omega arith) in
      let l : base ^ length text ≤ n = omega (arith, g, value-ge (0 * base + hex_value b) text) in
      ⊎_elim
      (λ (k : length text < c). omega arith)
      (λ (k : c ≤ length text). absurd (omega (arith, w, l, pow-le-pow_right {n = base} (omega arith) {i = c} {j = length text} k)))
      (lt-or-le (length text) c)

  -- digits without leading zeros are the text of their value
  pub plain-all : (text : List ℕ) → empty text ≡ false → plain text ≡ true → all_digits base text ≡ true → value base text < 2 ^ 64 → text ≡ plain_text base (value base text)
  unfolding empty plain
  plain-all [] e f a h = absurd (false≢true (sym e))
  plain-all (b ∷ []) e f a h =
      let w : value base (b ∷ []) < (0 + 1) * base ^ 1 = value-lt base 0 (b ∷ []) a in
      let l : value base (b ∷ []) < base = omega (arith, w, one_power base p) in
      rw (count-one base p (value base (b ∷ [])) l) (sym (digits-all (b ∷ []) a))
  plain-all (b ∷ c ∷ text) e f a h =
      let z : 0 < hex_value b = ⊎_elim (λ (k : 0 < hex_value b). k) (λ (k : hex_value b ≤ 0). absurd (false≢true (sym (ap not (eq-eqb (hex_value b) 0 (omega arith))) ∙ f))) (lt-or-le 0 (hex_value b)) in
      rw (count-all b (c ∷ text) a z h) (sym (digits-all (b ∷ c ∷ text) a))

-- ---- numbers

-- a decimal that reads as n is the text of n
pub decimal-is : (most n : ℕ) (text : List ℕ) → most < 2 ^ 64 → decimal_number most text ≡ Some n → (text ≡ decimal_text n) × (n ≤ most)
unfolding plainly number_in
decimal-is most n text m e =
    let g = picked (plain text) (number_in 10 most text) n e in
    let f = picked (not (empty text) && (all_digits 10 text && leb (value 10 text) most)) (Some (value 10 text)) n g.1 in
    let v : value 10 text ≡ n = cc f.1 in
    let r = and_right (not (empty text)) _ f.0 in
    let l : value 10 text ≤ most = leb-true (value 10 text) most (and_right (all_digits 10 text) _ r) in
    (rw (← v) (plain-all 10 (omega arith) (omega arith) text (not-true (empty text) (and_left _ _ f.0)) g.0 (and_left _ _ r) (omega (arith, l))), rw (← v) l)

-- a number of hexadecimal digits is written with so many of them
pub hex-is : (n : ℕ) (text : List ℕ) → hex_number text ≡ Some n → (text ≡ digits 16 (length text) n) × (n < 16 ^ length text)
unfolding hex_number
hex-is n text e =
    let f = picked (not (empty text) && (leb (length text) 16 && all_digits 16 text)) (Some (value 16 text)) n e in
    let v : value 16 text ≡ n = cc f.1 in
    let a : all_digits 16 text ≡ true = and_right (leb (length text) 16) _ (and_right (not (empty text)) _ f.0) in
    (sym (rw v at (digits-all 16 (omega arith) (omega arith) text a)), omega (arith, v, value-lt 16 0 text a))

-- ---- bytes

text-pairs : (text : List ℕ) → length text % 2 ≡ 0 → all_digits 16 text ≡ true → (text ≡ hex_text (pairs text)) × AllBytes (pairs text)
unfolding all_digits pairs hex_text
text-pairs [] z a = (refl, λ (i : ℕ) (h : i < 0). absurd (omega arith))
text-pairs (x ∷ []) z a = absurd (omega arith)
text-pairs (x ∷ y ∷ text) z a =
    let h : hex_value x < 16 = ltb-true (hex_value x) 16 (and_left _ _ a) in
    let r = and_right (ltb (hex_value x) 16) _ a in
    let l : hex_value y < 16 = ltb-true (hex_value y) 16 (and_left _ _ r) in
    let t = text-pairs text (omega arith) (and_right (ltb (hex_value y) 16) _ r) in
    let b = hex_value x * 16 + hex_value y in
    let small : AllBytes (b ∷ pairs text) = first b (pairs text) (omega arith) t.1 in
    (rw (digit_value (b / 16) x (omega arith) h, digit_value b y (omega arith) l, ← t.0), small)
  where
    first : (b : ℕ) (bytes : List ℕ) → b < 256 → AllBytes bytes → AllBytes (b ∷ bytes)
    first b bytes h t zero l = h
    first b bytes h t (suc i) l = t i (omega arith)

-- what spells bytes is their text
pub bytes-is : (text bytes : List ℕ) → bytes_spelled text ≡ Some bytes → (text ≡ hex_text bytes) × AllBytes bytes
unfolding bytes_spelled
bytes-is text bytes e =
    let f = picked (eqb (length text % 2) 0 && all_digits 16 text) (Some (pairs text)) bytes e in
    let q : pairs text ≡ bytes = cc f.1 in
    rw (← q) (text-pairs text (eqb-true (length text % 2) 0 (and_left _ _ f.0)) (and_right (eqb (length text % 2) 0) _ f.0))
