-- What callers may rely on: how large an answer is, and that an output keeps its length.
use Rattle.std.proofs.Common.{◌≡◌, ℕ, suc, ◌+◌, ◌^◌, ◌<◌, ◌≤◌, Bool, true, false, not, ◌&&◌, eqb, leb, List, [], ◌∷◌, length, drop, sym, refl, ap, ◌∙◌, ⊎_elim, zero-le, arith, length-drop, eqb-true, le-leb, leb-true, Option, Some, None, option_map, option_and_then, IfSome}
use borrow.Author.Tests.{lt-leb}
use Rattle.bits.specs.Choice.{pick}
use Rattle.bits.proofs.PutLaws.{length-put}
use Rattle.text.specs.Laid.{fits, laid, after}
use Rattle.text.specs.Digit.{all_digits}
use Rattle.text.specs.Number.{value, plain, plainly, empty, number_in}
use Rattle.text.specs.Hex.{hex_number, spelled_answer}
use Rattle.text.specs.Decimal.{decimal_number}
use Rattle.text.specs.Words.{part, word_length, word_end, starts_with, value_at}
use Rattle.std.proofs.lemmas.Option.{none-some}
use Rattle.text.specs.Fields.{parsed_in, read_after, fixed_hex, decimal_after, hex_after}
use Rattle.text.specs.declared.words.Place.{Place}
use Rattle.text.specs.declared.fields.Field.{Field}
use Rattle.text.proofs.Order.{lt-or-le, and_right}
use Rattle.text.proofs.HexLaws.{value-lt}
use Rattle.text.proofs.WordLaws.{starts-le}

-- ---- an answer that is given only where a test holds

pub picked : {A : Type 0} (t : Bool) (o : Option A) (x : A) → pick t o None ≡ Some x → (t ≡ true) × (o ≡ Some x)
picked true o x e = (refl, e)
picked false o x e = absurd (none-some x e)

pub if-some : {A : Type 0} (o : Option A) (P : A → Type 0) → ((x : A) → o ≡ Some x → P x) → IfSome o P
if-some None P h = tt
if-some (Some x) P h = h x refl

-- ---- numbers

-- a number read as decimal is not above most
pub decimal-le : (most n : ℕ) (text : List ℕ) → decimal_number most text ≡ Some n → n ≤ most
unfolding plainly number_in
decimal-le most n text e =
    let d = number_in 10 most text in
    let f = picked (not (empty text) && (all_digits 10 text && leb (value 10 text) most)) (Some (value 10 text)) n (picked (plain text) d n e).1 in
    let v : value 10 text ≡ n = cc f.1 in
    rw v at (leb-true (value 10 text) most (and_right (all_digits 10 text) _ (and_right (not (empty text)) _ f.0)))

-- a number of hexadecimal digits is below 16 ^ their count
pub hex-lt : (n : ℕ) (text : List ℕ) → hex_number text ≡ Some n → n < 16 ^ length text
unfolding hex_number
hex-lt n text e =
    let f = picked (not (empty text) && (leb (length text) 16 && all_digits 16 text)) (Some (value 16 text)) n e in
    let v : value 16 text ≡ n = cc f.1 in
    omega (arith, v, value-lt 16 0 text (and_right (leb (length text) 16) _ (and_right (not (empty text)) _ f.0)))

-- ---- words

word-le : (text : List ℕ) → word_length text ≤ length text
unfolding word_length
word-le [] = zero-le
word-le (b ∷ text) = word-le-by (eqb b 32) (word_length text) (length text) (word-le text)
  where
    word-le-by : (t : Bool) (m n : ℕ) → m ≤ n → pick t 0 (suc m) ≤ suc n
    word-le-by true m n h = zero-le
    word-le-by false m n h = omega arith

pub end-le : (text : List ℕ) (at : ℕ) → word_end text at ≤ length text
unfolding word_end
end-le text at = omega (arith, word-le (drop at text), length-drop at text)

pub found-bounds : (text key : List ℕ) (at : ℕ) (p : Place) → value_at text at key ≡ Some p → (at + length key ≡ p.from) × ((p.from ≤ p.to) × (p.to ≤ length text))
unfolding value_at word_end
found-bounds text key at p e =
    let from = at + length key in
    let f = picked (starts_with text at key) (Some (record { from = from; to = word_end text from })) p e in
    let l : from ≤ length text = starts-le text key at (starts_with text at key) refl (rw f.0) in
    let g : record { from = from; to = word_end text from } ≡ p = cc f.1 in
    let a : from ≡ p.from = ap (λ (q : Place). q.from) g in
    let z : word_end text from ≡ p.to = ap (λ (q : Place). q.to) g in
    (a, (omega arith, omega (arith, end-le text from)))

-- ---- fields

-- where a field's value stands, and that parse read it
module _ (parse : List ℕ → Option ℕ) (line key : List ℕ) (at : ℕ) (f : Field) where
  read-of : (p : Place) (o : Option ℕ) → option_map (λ (n : ℕ). record { value = n; next = p.to }) o ≡ Some f → (o ≡ Some f.value) × (p.to ≡ f.next)
  read-of p None e = absurd (none-some f e)
  read-of p (Some n) e =
      let g : record { value = n; next = p.to } ≡ f = cc in
      (ap (λ (h : Field). Some h.value) g, ap (λ (h : Field). h.next) g)

  read-by : (v : Option Place) → option_and_then (parsed_in parse line) v ≡ Some f → (p : Place) × ((v ≡ Some p) × ((parse (part line p.from p.to) ≡ Some f.value) × (p.to ≡ f.next)))
  read-by None e = absurd (none-some f e)
  read-by (Some p) e = (p, (refl, read-of p (parse (part line p.from p.to)) e))

  pub read-is : read_after parse line at key ≡ Some f → (p : Place) × ((value_at line at key ≡ Some p) × ((parse (part line p.from p.to) ≡ Some f.value) × (p.to ≡ f.next)))
  read-is e = read-by (value_at line at key) e

-- what the code reads in turn
pub read-word : (parse : List ℕ → Option ℕ) (line key : List ℕ) (at : ℕ) (p : Place) (v : Option Place) (word : List ℕ) (o : Option ℕ)
    → v ≡ value_at line at key → v ≡ Some p → word ≡ part line p.from p.to → o ≡ parse word → option_map (λ (n : ℕ). record { value = n; next = p.to }) o ≡ read_after parse line at key
read-word parse line key at p v word o d e w q = rw (← d, e, ← w, q)

module _ (line key : List ℕ) (at : ℕ) (f : Field) where
  pub decimal-after-le : (most : ℕ) → decimal_after line at key most ≡ Some f → f.value ≤ most
  unfolding decimal_after
  decimal-after-le most e =
      let r = read-is (decimal_number most) line key at f e in
      decimal-le most f.value (part line r.0.from r.0.to) r.1.1.0

  pub hex-after-lt : (width : ℕ) → hex_after line at key width ≡ Some f → f.value < 16 ^ width
  unfolding hex_after
  hex-after-lt width e =
      let r = read-is (fixed_hex width) line key at f e in
      let digits : List ℕ = part line r.0.from r.0.to in
      let h = picked (eqb (length digits) width) (hex_number digits) f.value r.1.1.0 in
      rw (eqb-true (length digits) width h.0) at (hex-lt f.value digits h.1)

-- ---- outputs

pub spelled-le : (o : Option (List ℕ)) (out : List ℕ) (n : ℕ) (r : Option ℕ) → r ≡ spelled_answer o out → r ≡ Some n → n ≤ length out
unfolding spelled_answer
spelled-le None out n r d e = absurd (none-some n (sym d ∙ e))
spelled-le (Some bytes) out n r d e =
    let f = picked (fits 0 bytes out) (Some (length bytes)) n (sym d ∙ e) in
    let l : length bytes ≡ n = cc f.1 in
    omega (arith, leb-true (0 + length bytes) (length out) f.0)

module _ (at : ℕ) (src out : List ℕ) where
  pub length-laid : length (laid at src out) ≡ length out
  unfolding laid
  length-laid =
      ⊎_elim
      (λ (h : length out < at + length src). rw (lt-leb (at + length src) (length out) h))
      (λ (h : at + length src ≤ length out). rw (le-leb (at + length src) (length out) h) (length-put at src out h))
      (lt-or-le (length out) (at + length src))

  pub after-le : at ≤ length out → after at src out ≤ length out
  unfolding after
  after-le g =
      ⊎_elim
      (λ (h : length out < at + length src). rw (lt-leb (at + length src) (length out) h) g)
      (λ (h : at + length src ≤ length out). rw (le-leb (at + length src) (length out) h) h)
      (lt-or-le (length out) (at + length src))
