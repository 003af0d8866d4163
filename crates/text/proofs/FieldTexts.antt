-- What the fields of a line say of its text: a good field is its key, then the text of its value; and where those stand, the field is good.
use Rattle.std.proofs.Common.{◌≡◌, ℕ, suc, ◌+◌, ◌-◌, ◌^◌, ◌<◌, ◌≤◌, min, Bool, true, false, eqb, ltb, leb, List, [], ◌∷◌, ◌++◌, length, drop, sym, refl, ap, ◌∙◌, arith, length-append, length-drop, take-append-drop, drop-drop, ltb-true, eq-eqb, eqb-true, le-leb, Option, Some, None}
use mathlib.Core.Bool.{false≢true}
use native.Mathlib.Nat.{add-sub_cancel_left}
use lib.Seq.{take-append_seam, drop-append_seam}
use Rattle.bits.specs.Choice.{pick}
use Rattle.text.specs.Digit.{hex_value, all_digits}
use Rattle.text.specs.Number.{digits, digit_count}
use Rattle.text.specs.Decimal.{decimal_number, decimal_text}
use Rattle.text.specs.Hex.{hex_number}
use Rattle.text.specs.Words.{part, word_length, word_end, begins_with, starts_with, value_at}
use Rattle.text.specs.Fields.{read_after, fixed_hex, decimal_after, hex_after, key_after}
use Rattle.text.specs.declared.words.Place.{Place}
use Rattle.text.specs.declared.fields.Field.{Field}
use Rattle.text.proofs.Order.{and_left, and_right}
use Rattle.text.proofs.NumberLaws.{length_digits}
use Rattle.text.proofs.Bounds.{picked, found-bounds, read-is}
use Rattle.text.proofs.RoundTrips.{digits-good, decimal-trip, hex-fixed-trip}
use Rattle.text.proofs.ExactLaws.{digit-no-space, decimal-is, hex-is}

-- ---- keys

begins-is : (key line : List ℕ) → begins_with key line ≡ true → line ≡ key ++ drop (length key) line
unfolding begins_with
begins-is [] line e = refl
begins-is (k ∷ key) [] e = absurd (false≢true e)
begins-is (k ∷ key) (b ∷ line) e =
    let h : b ≡ k = eqb-true b k (and_left _ _ e) in
    rw h (ap (λ (t : List ℕ). k ∷ t) (begins-is key line (and_right (eqb b k) _ e)))

begins-all : (key rest : List ℕ) → begins_with key (key ++ rest) ≡ true
unfolding begins_with
begins-all [] rest = refl
begins-all (k ∷ key) rest = rw (eq-eqb k k refl) (begins-all key rest)

module _ (line key : List ℕ) (at : ℕ) where
  pub starts_is : starts_with line at key ≡ true → drop at line ≡ key ++ drop (at + length key) line
  unfolding starts_with
  starts_is e = rw (← drop-drop (length key) at line) (begins-is key (drop at line) (and_right (leb at (length line)) _ e))

  pub starts-all : (rest : List ℕ) → at ≤ length line → drop at line ≡ key ++ rest → starts_with line at key ≡ true
  unfolding starts_with
  starts-all rest h e = rw (le-leb at (length line) h, e) (begins-all key rest)

-- ---- values

-- a rest that begins with a space, or is empty, begins no word
pub word_none : (rest : List ℕ) → word_length (32 ∷ rest) ≡ 0
unfolding word_length
word_none rest = refl

pub word_end_lem : word_length [] ≡ 0
unfolding word_length
word_end_lem = refl

-- so begins what follows a word
rest-word : (line : List ℕ) → word_length (drop (word_length line) line) ≡ 0
unfolding word_length
rest-word [] = refl
rest-word (b ∷ line) = by (eqb b 32) refl (rest-word line)
  where
    by : (t : Bool) → eqb b 32 ≡ t → word_length (drop (word_length line) line) ≡ 0 → word_length (drop (pick t 0 (suc (word_length line))) (b ∷ line)) ≡ 0
    by true e h = rw e
    by false e h = h

end_rest : (line : List ℕ) (at : ℕ) → at ≤ length line → word_length (drop (word_end line at) line) ≡ 0
unfolding word_end
end_rest line at h =
    let m : min at (length line) ≡ at = omega arith in
    rw (m, ← drop-drop (word_length (drop at line)) at line) (rest-word (drop at line))

-- a value that is found is what stands part its key and the rest
found-is : (line key : List ℕ) (at : ℕ) (p : Place) → value_at line at key ≡ Some p
    → (drop at line ≡ key ++ (part line p.from p.to ++ drop p.to line)) × (p.to ≤ length line) × (word_length (drop p.to line) ≡ 0)
unfolding value_at
found-is line key at p e =
    let f = picked (starts_with line at key) (Some (record { from = at + length key; to = word_end line (at + length key) })) p e in
    let b = found-bounds line key at p e in
    let g : record { from = at + length key; to = word_end line (at + length key) } ≡ p = cc f.1 in
    let w : word_end line (at + length key) ≡ p.to = ap (λ (q : Place). q.to) g in
    let z : p.from + (p.to - p.from) ≡ p.to = omega (arith, b.1.0) in
    let d : drop (p.to - p.from) (drop p.from line) ≡ drop p.to line = drop-drop (p.to - p.from) p.from line ∙ ap (λ (n : ℕ). drop n line) z in
    let t : part line p.from p.to ++ drop p.to line ≡ drop p.from line = rw (← d) (take-append-drop (p.to - p.from) (drop p.from line)) in
    (rw (t, ← b.0) (starts_is line key at f.0), b.1.1, rw (← w) (end_rest line (at + length key) (omega (arith, b.0, b.1.0, b.1.1))))

-- digits hold no space, so a word of digits ends where a rest begins that is empty or begins with a space
pub word-digits : (base : ℕ) (d rest : List ℕ) → base ≤ 16 → all_digits base d ≡ true → word_length rest ≡ 0 → word_length (d ++ rest) ≡ length d
unfolding all_digits word_length
word-digits base [] rest q a z = z
word-digits base (b ∷ d) rest q a z =
    let h : hex_value b < base = ltb-true (hex_value b) base (and_left _ _ a) in
    rw (digit-no-space b (omega arith)) (ap suc (word-digits base d rest q (and_right (ltb (hex_value b) base) _ a) z))

-- where a key, a value and a rest stand
module _ (line key d rest : List ℕ) (at : ℕ) (h : at ≤ length line) (e : drop at line ≡ key ++ (d ++ rest)) where
  after-key : drop (at + length key) line ≡ d ++ rest
  after-key = sym (drop-drop (length key) at line) ∙ rw e (drop-append_seam key (d ++ rest))

  value-size : at + length key + length d ≤ length line
  value-size = omega (arith, length-drop at line, ap (λ (t : List ℕ). length t) e, length-append key (d ++ rest), length-append d rest)

  value-part : part line (at + length key) (at + length key + length d) ≡ d
  value-part = rw (add-sub_cancel_left (at + length key) (length d), after-key) (take-append_seam d rest)

  value_after : drop (at + length key + length d) line ≡ rest
  value_after = sym (drop-drop (length d) (at + length key) line) ∙ rw after-key (drop-append_seam d rest)

  value-is : word_length (d ++ rest) ≡ length d → value_at line at key ≡ Some (record { from = at + length key; to = at + length key + length d })
  unfolding value_at word_end
  value-is w =
      let m : min (at + length key) (length line) ≡ at + length key = omega (arith, value-size) in
      rw (starts-all line key at (d ++ rest) h e, m, after-key, w)

-- ---- fields

-- the text that stands in a line from index at on
abbrev pub Stands : List ℕ → ℕ → List ℕ → Type 0
Stands line at rest = (at ≤ length line) × (drop at line ≡ rest)

-- the field f from index at on: its key, then the text of its value, then a rest that is empty or begins with a space
abbrev pub Says : List ℕ → List ℕ → ℕ → (ℕ → List ℕ) → Field → Type 0
Says line key at text f = (drop at line ≡ key ++ (text f.value ++ drop f.next line)) × (f.next ≤ length line) × (word_length (drop f.next line) ≡ 0)

module _ (line key : List ℕ) (at : ℕ) where
  read-says : (parse : List ℕ → Option ℕ) (text : ℕ → List ℕ) (f : Field) → ((word : List ℕ) → parse word ≡ Some f.value → word ≡ text f.value)
      → read_after parse line at key ≡ Some f → Says line key at text f
  read-says parse text f g e =
      let r = read-is parse line key at f e in
      let w = found-is line key at r.0 r.1.0 in
      rw (← r.1.1.1, ← g (part line r.0.from r.0.to) r.1.1.0) w

  pub decimal-says : (most : ℕ) → most < 2 ^ 64 → (f : Field) → decimal_after line at key most ≡ Some f → Says line key at decimal_text f
  unfolding decimal_after
  decimal-says most m f e = read-says (decimal_number most) decimal_text f (λ (word : List ℕ) (h : decimal_number most word ≡ Some f.value). (decimal-is most f.value word m h).0) e

  pub hex-says : (width : ℕ) (f : Field) → hex_after line at key width ≡ Some f → Says line key at (digits 16 width) f
  unfolding hex_after
  hex-says width f e =
      read-says (fixed_hex width) (digits 16 width) f
      (λ (word : List ℕ) (h : fixed_hex width word ≡ Some f.value).
      let g = picked (eqb (length word) width) (hex_number word) f.value h in
      rw (← eqb-true (length word) width g.0) (hex-is f.value word g.1).0)
      e

  -- and where a value's text d stands, the field is that value
  module _ (d rest : List ℕ) (st : Stands line at (key ++ (d ++ rest))) where
    read-stands : (parse : List ℕ → Option ℕ) (n : ℕ) → word_length (d ++ rest) ≡ length d → parse d ≡ Some n
        → (read_after parse line at key ≡ Some (record { value = n; next = at + length key + length d })) × Stands line (at + length key + length d) rest
    read-stands parse n w e = (rw (value-is line key d rest at st.0 st.1 w, value-part line key d rest at st.0 st.1, e), (value-size line key d rest at st.0 st.1, value_after line key d rest at st.0 st.1))

  pub decimal-stands : (most n : ℕ) (rest : List ℕ) → n ≤ most → n < 2 ^ 64 → word_length rest ≡ 0 → Stands line at (key ++ (decimal_text n ++ rest))
      → (decimal_after line at key most ≡ Some (record { value = n; next = at + length key + length (decimal_text n) })) × Stands line (at + length key + length (decimal_text n)) rest
  unfolding decimal_after
  decimal-stands most n rest h l z st =
      let w = word-digits 10 (decimal_text n) rest (omega arith) (digits-good 10 (omega arith) (omega arith) (digit_count 10 n) n) z in
      read-stands (decimal_text n) rest st (decimal_number most) n w (decimal-trip most n h l)

  pub hex-stands : (width n : ℕ) (rest : List ℕ) → 0 < width → width ≤ 16 → n < 16 ^ width → word_length rest ≡ 0 → Stands line at (key ++ (digits 16 width n ++ rest))
      → (hex_after line at key width ≡ Some (record { value = n; next = at + length key + width })) × Stands line (at + length key + width) rest
  unfolding hex_after
  hex-stands width n rest p q l z st =
      let d = digits 16 width n in
      let w = word-digits 16 d rest (omega arith) (digits-good 16 (omega arith) (omega arith) width n) z in
      let e : width ≡ length d = length_digits 16 width n in
      let c : eqb (length d) width ≡ true = eq-eqb (length d) width (sym e) in
      let r = read-stands d rest st (fixed_hex width) n w (rw c (hex-fixed-trip width n p q l)) in
      rw (← e) at r

  -- a key alone

  pub key-says : (next : ℕ) → key_after line at key ≡ Some next → drop at line ≡ key ++ drop next line
  unfolding key_after
  key-says next e =
      let f = picked (starts_with line at key) (Some (at + length key)) next e in
      let n : at + length key ≡ next = cc f.1 in
      rw n at (starts_is line key at f.0)

  pub key-stands : (rest : List ℕ) → Stands line at (key ++ rest) → (key_after line at key ≡ Some (at + length key)) × Stands line (at + length key) rest
  unfolding key_after
  key-stands rest st =
      let l : at + length key ≤ length line = omega (arith, st.0, length-drop at line, ap (λ (t : List ℕ). length t) st.1, length-append key rest) in
      let d : drop (at + length key) line ≡ rest = sym (drop-drop (length key) at line) ∙ rw st.1 (drop-append_seam key rest) in
      (rw (starts-all line key at rest st.0 st.1), (l, d))

  -- another text stands there
  pub key-absent : (rest : List ℕ) → Stands line at rest → begins_with key rest ≡ false → key_after line at key ≡ None
  unfolding key_after starts_with
  key-absent rest st e = rw (le-leb at (length line) st.0, st.1, e)
