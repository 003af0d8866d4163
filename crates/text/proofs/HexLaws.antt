-- Hexadecimal: one law for each place of the code.
use Rattle.std.proofs.Common.{◌≡◌, ℕ, zero, suc, ◌+◌, ◌-◌, ◌*◌, ◌/◌, ◌%◌, ◌^◌, ◌<◌, ◌≤◌, min, Bool, true, false, not, ◌&&◌, eqb, ltb, leb, List, [], ◌∷◌, length, get_or, take, drop, set, sym, refl, ap, ◌∙◌, lt_of_lt_of_le, mul-le-mul_right, zero-lt-suc, mul_assoc, mul_comm, pow-suc, add-one, arith, length-set, drop_of_length-le, length-take, take_all, drop-cons, ltb-true, eq-eqb, ne_eqb, le-leb, Option, Some, None}
use mathlib.Core.Bool.{and-false}
use native.Mathlib.Nat.{sub-zero, pow-zero, pow-le-pow_right}
use borrow.Author.Tests.{lt-leb, not-true, not-false}
use Rattle.text.specs.Digit.{hex_value, hex_digit, all_digits}
use Rattle.bits.specs.Choice.{pick}
use Rattle.bits.specs.Put.{put}
use Rattle.text.specs.Laid.{laid}
use Rattle.text.specs.Number.{value_from, value, empty, number_in}
use Rattle.text.specs.Hex.{hex_number, pairs, bytes_spelled, spelled_answer, spelled_over, front_answer, front_over, hex_text}
use Rattle.text.proofs.Order.{and_left, and_right}
use Rattle.text.proofs.PutLaws.{put_first, put-done}
use Rattle.text.proofs.DigitLaws.{digit-small, digits-rest}

-- ---- numbers

-- k digits after v stay below (v + 1) * base ^ k
pub value-lt : (base v : ℕ) (text : List ℕ) → all_digits base text ≡ true → value_from base v text < (v + 1) * base ^ length text
unfolding value_from all_digits
value-lt base v [] a = rw (pow-zero base) (omega arith)
value-lt base v (b ∷ text) a =
    let d : hex_value b < base = ltb-true (hex_value b) base (and_left (ltb (hex_value b) base) (all_digits base text) a) in
    let h : value_from base (v * base + hex_value b) text < (v * base + hex_value b + 1) * base ^ length text = value-lt base (v * base + hex_value b) text (and_right (ltb (hex_value b) base) (all_digits base text) a) in
    let k : (v * base + hex_value b + 1) * base ^ length text ≤ (v + 1) * base * base ^ length text = mul-le-mul_right (base ^ length text) (omega arith) in
    lt_of_lt_of_le h (rw (pow-suc base (length text), mul_comm (base ^ length text) base, ← mul_assoc (v + 1) base (base ^ length text)) k)

fits-or-not : (t : Bool) (text : List ℕ) → all_digits 16 text ≡ t → length text ≤ 16 → (all_digits 16 text && leb (value 16 text) 18446744073709551615) ≡ all_digits 16 text
fits-or-not true text a l =
    let h : value 16 text < 16 ^ 16 = lt_of_lt_of_le (value-lt 16 0 text a) (omega (arith, pow-le-pow_right (zero-lt-suc 15) l)) in
    rw (le-leb (value 16 text) 18446744073709551615 (omega arith), a)
fits-or-not false text a l = rw a

module _ (text : List ℕ) where
  pub hex-long : 16 < length text → None ≡ hex_number text
  unfolding hex_number
  hex-long h = rw (lt-leb (length text) 16 h, and-false (not (empty text)))

  pub hex-short : (r : Option ℕ) → length text ≤ 16 → r ≡ number_in 16 18446744073709551615 text → r ≡ hex_number text
  unfolding hex_number number_in
  hex-short r h e = e ∙ rw (le-leb (length text) 16 h, fits-or-not (all_digits 16 text) text refl h)

pub ruleset hex-laws = (hex-long, hex-short)

-- ---- printed bytes

pub length-text : (bytes : List ℕ) → 2 * length bytes ≡ length (hex_text bytes)
unfolding hex_text
length-text [] = refl
length-text (b ∷ bytes) = omega (arith, length-text bytes)

-- the code has laid the first i bytes' digits, up to index to

module _ (at to i : ℕ) (bytes out whole : List ℕ) (q : put to (hex_text (drop i bytes)) out ≡ whole) where
  pub text-done : length bytes ≤ i → out ≡ whole
  unfolding hex_text
  text-done l = sym (put-done to out) ∙ (rw (drop_of_length-le bytes l) at q)

  pub text-next : (d e : ℕ) (out₀ : List ℕ) → d ≡ hex_digit (get_or bytes i 0 / 16) → e ≡ hex_digit (get_or bytes i 0)
      → i < length bytes → to ≡ at + 2 * i → at + 2 * length bytes ≤ length out₀ → length out ≡ length out₀
      → put (to + 2) (hex_text (drop (i + 1) bytes)) (set (set out to d) (to + 1) e) ≡ whole
  unfolding hex_text
  text-next d e out₀ f g h t l z =
      let r : to + 2 ≡ to + 1 + 1 = omega arith in
      let k : hex_text (drop i bytes) ≡ d ∷ e ∷ hex_text (drop (i + 1) bytes) = rw (drop-cons bytes i 0 h, add-one i, f, g) in
      rw (
        r,
        put_first (to + 1) e (hex_text (drop (i + 1) bytes)) (set out to d) (simp length-set (omega arith)),
        put_first to d (e ∷ hex_text (drop (i + 1) bytes)) out (omega arith),
        ← k,
      )
      q

pub ruleset text-laws = (text-done, text-next)

-- ---- bytes from digits

pub length_pairs : (text : List ℕ) → length text / 2 ≡ length (pairs text)
unfolding pairs
length_pairs [] = refl
length_pairs (a ∷ []) = refl
length_pairs (a ∷ b ∷ text) = omega (arith, length_pairs text)

-- the code has laid i bytes of n, and the digits from index 2 * i on are good; x and y are the next two letters

module _ (n i x a : ℕ) (text : List ℕ) (p : x ≡ get_or text (2 * i) 0) (e : a ≡ hex_value x) (h : i < n) (l : 2 * n ≤ length text) (g : all_digits 16 (drop (2 * i) text) ≡ true) where
  high : a < 16
  high = rw (e, p) (digit-small 16 (2 * i) text (omega arith) g)

  pub high_fits : a * 16 < 2 ^ 8
  high_fits = omega (arith, high)

  module _ (y b : ℕ) (q : y ≡ get_or text (2 * i + 1) 0) (f : b ≡ hex_value y) where
    pub pair_fits : a * 16 + b < 2 ^ 8
    pair_fits =
        let k : b < 16 = rw (f, q) (digit-small 16 (2 * i + 1) text (omega arith) (digits-rest 16 (2 * i) text (omega arith) g)) in
        omega (arith, high)

    pub pair-next : (whole out out₀ : List ℕ) → n ≤ length out₀ → length out ≡ length out₀ → put i (take (n - i) (pairs (drop (2 * i) text))) out ≡ whole
        → put (i + 1) (take (n - (i + 1)) (pairs (drop (2 * (i + 1)) text))) (set out i (a * 16 + b)) ≡ whole
    unfolding pairs
    pair-next whole out out₀ m z w =
        let r : 2 * (i + 1) ≡ 2 * i + 1 + 1 = omega arith in
        let t : n - i ≡ suc (n - (i + 1)) = omega arith in
        let rest : List ℕ = take (n - (i + 1)) (pairs (drop (2 * i + 1 + 1) text)) in
        let k : take (n - i) (pairs (drop (2 * i) text)) ≡ (a * 16 + b) ∷ rest = rw (t, drop-cons text (2 * i) 0 (omega arith), ← add-one (2 * i), drop-cons text (2 * i + 1) 0 (omega arith), ← add-one (2 * i + 1), e, f, p, q) in
        rw (r, put_first i (a * 16 + b) rest out (omega arith), ← k) w

pub digits-next : (n i : ℕ) (text : List ℕ) → i < n → 2 * n ≤ length text → all_digits 16 (drop (2 * i) text) ≡ true → all_digits 16 (drop (2 * (i + 1)) text) ≡ true
digits-next n i text h l g =
    let r : 2 * (i + 1) ≡ 2 * i + 1 + 1 = omega arith in
    rw r (digits-rest 16 (2 * i + 1) text (omega arith) (digits-rest 16 (2 * i) text (omega arith) g))

pub pair-done : (n i : ℕ) (text out whole : List ℕ) → n ≤ i → put i (take (n - i) (pairs (drop (2 * i) text))) out ≡ whole → out ≡ whole
pair-done n i text out whole h q =
    let z : n - i ≡ 0 = omega arith in
    sym (put-done i out) ∙ (rw z at q)

pub pair-start : (n : ℕ) (text out : List ℕ) → put 0 (take (n - 0) text) out ≡ put 0 (take n text) out
pair-start n text out = rw (sub-zero n)

pub ruleset pair-laws = (pair-start, high_fits, pair_fits, pair-next, digits-next, pair-done)

-- what is answered, and what out holds then

module _ (text : List ℕ) where
  pub spells-odd : (length text % 2 ≡ 0 → ⊥) → bytes_spelled text ≡ None
  unfolding bytes_spelled
  spells-odd h = rw (ne_eqb (length text % 2) 0 h)

  module _ (r : Bool) (e : r ≡ all_digits 16 text) where
    pub spells-bad : not r ≡ true → bytes_spelled text ≡ None
    unfolding bytes_spelled
    spells-bad h = rw (← e, not-true r h, and-false (eqb (length text % 2) 0))

    pub spells-good : length text % 2 ≡ 0 → not r ≡ false → bytes_spelled text ≡ Some (pairs text)
    unfolding bytes_spelled
    spells-good z h = rw (eq-eqb (length text % 2) 0 z, ← e, not-false r h)

-- how many bytes are laid, and that as many of them are those

take-size : (n : ℕ) (text : List ℕ) → take (length (take n text)) text ≡ take n text
take-size zero text = refl
take-size (suc n) [] = refl
take-size (suc n) (b ∷ text) = ap (λ (rest : List ℕ). b ∷ rest) (take-size n text)

pub front_length : (most : ℕ) (text : List ℕ) → length (take most (pairs text)) ≡ min most (length text / 2)
front_length most text = rw (length_pairs text) (length-take most (pairs text))

module _ (most : ℕ) (o : Option (List ℕ)) (out : List ℕ) where
  pub answer-none : o ≡ None → None ≡ front_answer most o out
  unfolding front_answer
  answer-none h = rw h

  pub over_none : o ≡ None → out ≡ front_over most o out
  unfolding front_over
  over_none h = rw h

  module _ (text : List ℕ) (n : ℕ) (e : o ≡ Some (pairs text)) (f : n ≡ min most (length text / 2)) where
    size : length (take most (pairs text)) ≡ n
    size = front_length most text ∙ sym f

    pub answer-short : length out < n → None ≡ front_answer most o out
    unfolding front_answer
    answer-short h = rw (e, lt-leb (0 + length (take most (pairs text))) (length out) (omega (arith, size)))

    pub over-short : length out < n → out ≡ front_over most o out
    unfolding front_over laid
    over-short h = rw (e, lt-leb (0 + length (take most (pairs text))) (length out) (omega (arith, size)))

    module _ (h : n ≤ length out) where
      pub answer-whole : Some (length text / 2) ≡ front_answer most o out
      unfolding front_answer
      answer-whole = rw (e, le-leb (0 + length (take most (pairs text))) (length out) (omega (arith, size)), length_pairs text)

      pub over-whole : (last : List ℕ) → last ≡ put 0 (take n (pairs text)) out → last ≡ front_over most o out
      unfolding front_over laid
      over-whole last q = rw (e, le-leb (0 + length (take most (pairs text))) (length out) (omega (arith, size)), ← take-size most (pairs text), size) q

pub ruleset front-laws = (spells-odd, spells-bad, spells-good, answer-none, over_none, answer-short, over-short, answer-whole, over-whole)

-- what the loop asks of text
pub front-half : (most n : ℕ) (text : List ℕ) → n ≡ min most (length text / 2) → 2 * n ≤ length text
front-half most n text f = omega arith

pub all-good : (r : Bool) (text : List ℕ) → r ≡ all_digits 16 text → not r ≡ false → all_digits 16 text ≡ true
all-good r text e h = sym e ∙ not-false r h

-- text has more digits than it spells bytes

module _ (text out : List ℕ) where
  all-front : take (length text) (pairs text) ≡ pairs text
  all-front = take_all (length text) (pairs text) (omega (arith, length_pairs text))

  pub answer-all : (r : Option ℕ) → r ≡ front_answer (length text) (bytes_spelled text) out → r ≡ spelled_answer (bytes_spelled text) out
  unfolding bytes_spelled front_answer spelled_answer
  answer-all r q = q ∙ by (eqb (length text % 2) 0 && all_digits 16 text)
    where
      by : (t : Bool) → front_answer (length text) (pick t (Some (pairs text)) None) out ≡ spelled_answer (pick t (Some (pairs text)) None) out
      by true = rw all-front
      by false = refl

  pub over-all : (last : List ℕ) → last ≡ front_over (length text) (bytes_spelled text) out → last ≡ spelled_over (bytes_spelled text) out
  unfolding bytes_spelled front_over spelled_over
  over-all last q = q ∙ by (eqb (length text % 2) 0 && all_digits 16 text)
    where
      by : (t : Bool) → front_over (length text) (pick t (Some (pairs text)) None) out ≡ spelled_over (pick t (Some (pairs text)) None) out
      by true = rw all-front
      by false = refl

pub ruleset spelled-laws = (answer-all, over-all)
