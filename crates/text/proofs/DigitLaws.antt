-- Digits as letters and as values.
use Rattle.std.proofs.Common.{◌≡◌, ℕ, ◌+◌, ◌-◌, ◌%◌, ◌^◌, ◌<◌, ◌≤◌, min, Bool, true, ◌&&◌, ltb, List, length, get_or, drop, sym, ◌∙◌, ⊎_elim, add-one, arith, drop_of_length-le, drop-cons, ltb-true, le-ltb, lt-ltb, le-leb}
use mathlib.Core.Bool.{and-true, and_assoc}
use borrow.Author.Tests.{lt-leb}
use Rattle.text.proofs.Order.{lt-or-le, and_left, and_right}
use Rattle.text.specs.Digit.{hex_value, hex_digit, all_digits}

-- the value by the byte's place

module _ (b : ℕ) where
  pub value-below : b < 48 → 16 ≡ hex_value b
  unfolding hex_value
  value-below h = rw (lt-leb 48 b h, lt-leb 97 b (omega arith))

  pub value-number : 48 ≤ b → b ≤ 57 → b - 48 ≡ hex_value b
  unfolding hex_value
  value-number h k = rw (le-leb 48 b h, le-leb b 57 k)

  pub value-between : 48 ≤ b → 57 < b → b < 97 → 16 ≡ hex_value b
  unfolding hex_value
  value-between g h k = rw (le-leb 48 b g, lt-leb b 57 h, lt-leb 97 b k)

  pub value-letter : 57 < b → 97 ≤ b → b ≤ 102 → b - 97 + 10 ≡ hex_value b
  unfolding hex_value
  value-letter g h k = rw (le-leb 48 b (omega arith), lt-leb b 57 g, le-leb 97 b h, le-leb b 102 k)

  pub value-above : 102 < b → 16 ≡ hex_value b
  unfolding hex_value
  value-above h = rw (le-leb 48 b (omega arith), lt-leb b 57 (omega arith), le-leb 97 b (omega arith), lt-leb b 102 h)

-- one law for each return, where number is b less 48 and letter is b less 97, wrapped around

module _ (b number : ℕ) (e : (number + 48) % 2 ^ 8 ≡ b) (h : number < 2 ^ 8) where
  pub value_low : number < 10 → number ≡ hex_value b
  value_low l = rw (← value-number b (omega arith) (omega arith)) (omega arith)

  pub value-high : (letter d : ℕ) → (letter + 97) % 2 ^ 8 ≡ b → letter < 2 ^ 8 → d ≡ min letter 6 → 10 ≤ number → 10 + d ≡ hex_value b
  value-high letter d f k g l =
      ⊎_elim
      (λ (m : letter < 6). rw (← value-letter b (omega arith) (omega arith) (omega arith)) (omega arith))
      (λ (m : 6 ≤ letter).
      let n : 10 + d ≡ 16 = omega arith in
      n ∙ ⊎_elim (λ (p : b < 48). value-below b p) (λ (p : 48 ≤ b). ⊎_elim (λ (q : b < 97). value-between b p (omega arith) q) (λ (q : 97 ≤ b). value-above b (omega arith)) (lt-or-le b 97)) (lt-or-le b 48))
      (lt-or-le letter 6)

pub ruleset value-laws = (value_low, value-high)

module _ (n : ℕ) where
  pub digit-number : n % 16 < 10 → 48 + n % 16 ≡ hex_digit n
  unfolding hex_digit
  digit-number h = rw (lt-ltb (n % 16) 10 h)

  pub digit-letter : 10 ≤ n % 16 → 97 + (n % 16 - 10) ≡ hex_digit n
  unfolding hex_digit
  digit-letter h = rw (le-ltb (n % 16) 10 h)

pub ruleset digit-laws = (digit-number, digit-letter)

-- the value of a digit's letter
pub value-digit : (n : ℕ) → hex_value (hex_digit n) ≡ n % 16
value-digit n =
    ⊎_elim
    (λ (h : n % 16 < 10). rw (← digit-number n h, ← value-number (48 + n % 16) (omega arith) (omega arith)) (omega arith))
    (λ (h : 10 ≤ n % 16). rw (← digit-letter n h, ← value-letter (97 + (n % 16 - 10)) (omega arith) (omega arith) (omega arith)) (omega arith))
    (lt-or-le (n % 16) 10)

-- the first digit of those from index i on

module _ (base i : ℕ) (text : List ℕ) where
  pub digits-first : i < length text → all_digits base (drop i text) ≡ (ltb (hex_value (get_or text i 0)) base && all_digits base (drop (i + 1) text))
  unfolding all_digits
  digits-first h = rw (drop-cons text i 0 h, add-one i)

  pub digit-small : i < length text → all_digits base (drop i text) ≡ true → hex_value (get_or text i 0) < base
  digit-small h a = ltb-true _ _ (and_left _ _ (sym (digits-first h) ∙ a))

  pub digits-rest : i < length text → all_digits base (drop i text) ≡ true → all_digits base (drop (i + 1) text) ≡ true
  digits-rest h a = and_right (ltb (hex_value (get_or text i 0)) base) _ (sym (digits-first h) ∙ a)

-- one law for each place of a scan without an early answer, where good says whether the digits before index i are good

module _ (base i : ℕ) (text : List ℕ) (good t : Bool) (a : good && all_digits base (drop i text) ≡ t) where
  pub scan-done : length text ≤ i → good ≡ t
  unfolding all_digits
  scan-done h = sym (and-true good) ∙ (rw (drop_of_length-le text h) at a)

  pub scan-next : (d : ℕ) → d ≡ hex_value (get_or text i 0) → i < length text → (good && ltb d base) && all_digits base (drop (i + 1) text) ≡ t
  scan-next d e h = rw (e, and_assoc good (ltb (hex_value (get_or text i 0)) base) (all_digits base (drop (i + 1) text)), ← digits-first base i text h) a

pub ruleset scan-laws = (scan-done, scan-next)
