-- The line that begins at a place: one law for each place of the code.
use Prim.Native.Nat.{ℕ, zero, suc, ◌+◌, ◌-◌, ◌≤◌, ◌<◌, min}
use mathlib.Core.Path.{◌≡◌, refl, sym, ◌∙◌, ap}
use mathlib.Core.Bool.{Bool, true, false, ◌||◌, or-false, or_assoc, true≢false}
use mathlib.Core.Logic.{⊎_elim, ◌≢◌}
use mathlib.Core.List.{List, [], ◌∷◌, ◌++◌}
use native.Mathlib.Nat.{add-zero}
use native.Mathlib.Numerals.{add-one}
use native.Mathlib.Omega.{arith}
use lib.Dec.{ltb, eqb}
use lib.ListN.{length, get_or, drop, length-drop, length-append, drop_of_length-le}
use lib.Seq.{drop-cons, drop-drop, drop-append_seam}
use borrow.Author.Tests.{lt-ltb, le-ltb, eq-eqb, ne_eqb}
use Rattle.bits.specs.Choice.{pick}
use Rattle.text.proofs.Order.{lt-or-le}
use Rattle.capture_lines.specs.Lines.{is_newline, line_length, text_most, next_line}
use Rattle.capture_lines.specs.declared.NextLine.TheVariants.{Ended, OverLong, Unended}

-- ---- whether there is a newline

-- in a text that begins with a byte
ends_by : (t : Bool) (m n : ℕ) → ltb (pick t 0 (suc m)) (suc n) ≡ (t || ltb m n)
ends_by true m n = lt-ltb 0 (suc n) (omega arith)
ends_by false m n =
    ⊎_elim
    (λ (h : m < n). lt-ltb (suc m) (suc n) (omega arith) ∙ sym (lt-ltb m n h))
    (λ (h : n ≤ m). le-ltb (suc m) (suc n) (omega arith) ∙ sym (le-ltb m n h))
    (lt-or-le m n)

-- the code has looked at the first i bytes

module _ (bytes : List ℕ) (i : ℕ) (found t : Bool) (q : found || ltb (line_length (drop i bytes)) (length (drop i bytes)) ≡ t) where
  pub found-done : length bytes ≤ i → found ≡ t
  unfolding line_length
  found-done h = sym (or-false found) ∙ (rw (drop_of_length-le bytes h) at q)

  pub found-next : i < length bytes → (found || eqb (get_or bytes i 0) 10) || ltb (line_length (drop (i + 1) bytes)) (length (drop (i + 1) bytes)) ≡ t
  unfolding line_length
  found-next h =
      let k = drop (suc i) bytes in
      rw (add-one i, or_assoc found (eqb (get_or bytes i 0) 10) (ltb (line_length k) (length k)), ← ends_by (eqb (get_or bytes i 0) 10) (line_length k) (length k)) (rw (drop-cons bytes i 0 h) at q)

pub ruleset found-laws = (found-done, found-next)

-- ---- the first newline

-- a text whose first k bytes have no newline
or_left : (a b : Bool) → a || b ≡ false → a ≡ false
or_left true b h = h
or_left false b h = refl

or_right : (a b : Bool) → a || b ≡ false → b ≡ false
or_right true b h = absurd (true≢false h)
or_right false b h = h

skipped : (x y : List ℕ) → ltb (line_length x) (length x) ≡ false → length x + line_length y ≡ line_length (x ++ y)
unfolding line_length
skipped [] y e = omega arith
skipped (b ∷ x) y e =
    let f : is_newline b || ltb (line_length x) (length x) ≡ false = sym (ends_by (is_newline b) (line_length x) (length x)) ∙ e in
    let r : length x + line_length y ≡ line_length (x ++ y) = skipped x y (or_right (is_newline b) _ f) in
    rw (or_left (is_newline b) _ f) (omega arith)

-- the code stands before a chunk x that has no newline

module _ (bytes rest x y : List ℕ) (i : ℕ) (h : i ≤ length bytes) (e : rest ≡ drop i bytes) (f : rest ≡ x ++ y) (k : length x ≡ 32) where
  pub chunk-within : i + 32 ≤ length bytes
  chunk-within = omega (arith, ap length f, ap length e, length-append x y, length-drop i bytes)

  pub chunk-rest : y ≡ drop (i + 32) bytes
  chunk-rest = sym (rw k at (drop-append_seam x y)) ∙ (ap (λ (w : List ℕ). drop 32 w) (sym f ∙ e) ∙ drop-drop 32 i bytes)

  pub chunk-newline : (t : ℕ) → i + line_length (drop i bytes) ≡ t → (r : Bool) → r ≡ ltb (line_length x) (length x) → r ≡ false → i + 32 + line_length (drop (i + 32) bytes) ≡ t
  chunk-newline t q r g p =
      let s : length x + line_length y ≡ line_length (drop i bytes) = skipped x y (sym g ∙ p) ∙ ap line_length (sym f ∙ e) in
      rw (← chunk-rest) (omega arith)

pub ruleset chunk-laws = (chunk-within, chunk-rest, chunk-newline)

-- no newline stands from an index up to one n bytes later, where one or the end is

newline_after : (n : ℕ) (bytes : List ℕ) (at : ℕ) → at + n ≤ length bytes → ((k : ℕ) → at ≤ k → k < at + n → get_or bytes k 0 ≢ 10)
    → (at + n < length bytes → get_or bytes (at + n) 0 ≡ 10) → line_length (drop at bytes) ≡ n
unfolding line_length
newline_after zero bytes at l none here =
    ⊎_elim
    (λ (h : at < length bytes). rw (drop-cons bytes at 0 h, eq-eqb (get_or bytes at 0) 10 (rw add-zero at (here (omega arith)))))
    (λ (h : length bytes ≤ at). rw (drop_of_length-le bytes h))
    (lt-or-le at (length bytes))
newline_after (suc n) bytes at l none here =
    let h : at < length bytes = omega arith in
    let z : suc at + n ≡ at + suc n = omega arith in
    let r : line_length (drop (suc at) bytes) ≡ n = newline_after n bytes (suc at) (omega arith) (λ k a b. none k (omega arith) (omega arith)) (rw z here) in
    rw (drop-cons bytes at 0 h, ne_eqb (get_or bytes at 0) 10 (none at (omega arith) (omega arith)), r)

pub line-end : (bytes : List ℕ) (at r : ℕ) → r ≤ length bytes → at ≤ r → ((k : ℕ) → at ≤ k → k < r → get_or bytes k 0 ≢ 10)
    → (r < length bytes → get_or bytes r 0 ≡ 10) → r ≡ at + line_length (drop at bytes)
line-end bytes at r l b none here =
    let z : at + (r - at) ≡ r = omega arith in
    let n : line_length (drop at bytes) ≡ r - at = newline_after (r - at) bytes at (omega arith) (λ k a c. none k a (omega arith)) (rw z here) in
    omega arith

-- ---- the line

clipped : (bytes : List ℕ) (place start : ℕ) → start ≡ min place (length bytes) → drop start bytes ≡ drop place bytes
clipped bytes place start e =
    ⊎_elim
    (λ (h : place < length bytes). let k : start ≡ place = omega arith in rw k)
    (λ (h : length bytes ≤ place). rw (drop_of_length-le bytes h, drop_of_length-le bytes {i = start} (omega arith)))
    (lt-or-le place (length bytes))

module _ (bytes : List ℕ) (place start e : ℕ) (f : start ≡ min place (length bytes)) (g : e ≡ start + line_length (drop start bytes)) where
  same : start + line_length (drop place bytes) ≡ e
  same = rw (← clipped bytes place start f) (sym g)

  pub next-unended : length bytes ≤ e → Unended e ≡ next_line bytes place
  unfolding next_line
  next-unended h = rw (← f, same, le-ltb e (length bytes) h)

  module _ (h : e < length bytes) where
    count : line_length (drop place bytes) ≡ e - start
    count = omega (arith, same)

    pub next-over : text_most < e - start → OverLong (e + 1) ≡ next_line bytes place
    unfolding next_line
    next-over k = rw (← f, same, lt-ltb e (length bytes) h, count, lt-ltb text_most (e - start) k, add-one e)

    pub next-ended : e - start ≤ text_most → Ended (e + 1) ≡ next_line bytes place
    unfolding next_line
    next-ended k = rw (← f, same, lt-ltb e (length bytes) h, count, le-ltb text_most (e - start) k, add-one e)

pub ruleset next_laws = (next-unended, next-over, next-ended)
