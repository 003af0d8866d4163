-- The line that begins at a place, and the complete lines from there on.
use Prim.Native.Nat.{ℕ, suc, ◌+◌, ◌-◌, ◌≤◌, min}
use mathlib.Core.Path.{◌≡◌, refl, sym, ◌∙◌, ap, subst}
use mathlib.Core.Bool.{Bool, true, false}
use mathlib.Core.List.{List, [], ◌∷◌}
use native.Mathlib.Omega.{arith}
use lib.ListN.{length, take, drop, length-drop}
use lib.Seq.{drop-drop}
use borrow.Author.Tests.{lt-ltb, le-ltb}
use Rattle.bits.specs.Choice.{pick}
use Rattle.capture_lines.specs.Lines.{line_with, complete_lines, unended, over_long, line_length, next_line}
use Rattle.capture_lines.specs.declared.NextLine.{NextLine}
use Rattle.capture_lines.specs.declared.NextLine.TheVariants.{Ended, OverLong, Unended}
use Rattle.capture_lines.proofs.LineLaws.{place, ends, unfinished, within, Following, following}

-- ---- the bytes before the first newline

abbrev Before : List ℕ → List (List ℕ) → Type 0
Before bytes [] = line_length bytes ≡ length bytes
Before bytes (text ∷ texts) = (line_length bytes ≡ length text) × (take (length text) bytes ≡ text)

before-all : (bytes : List ℕ) → Before bytes (complete_lines bytes)
unfolding complete_lines line_with line_length
before-all [] = refl
before-all (b ∷ bytes) =
    elim (place b bytes) [
      | ends h ↦ rw h (rw h, refl)
      | unfinished h e ↦ let f : Before bytes [] = subst (λ x. Before bytes x) e (before-all bytes) in rw (h, e) (rw (h, f))
      | within h text texts e ↦ let f : Before bytes (text ∷ texts) = subst (λ x. Before bytes x) e (before-all bytes) in rw (h, e) (rw (h, f.0), ap (λ (x : List ℕ). b ∷ x) f.1)
    ]

-- ---- the next line

module _ (bytes : List ℕ) (at : ℕ) (l : at ≤ length bytes) where
  next-none : complete_lines (drop at bytes) ≡ [] → next_line bytes at ≡ Unended (length bytes)
  unfolding next_line
  next-none e =
      let n : line_length (drop at bytes) ≡ length bytes - at = subst (λ x. Before (drop at bytes) x) e (before-all (drop at bytes)) ∙ length-drop at bytes in
      let m : min at (length bytes) ≡ at = omega (arith, l) in
      let z : at + (length bytes - at) ≡ length bytes = omega (arith, l) in
      rw (n, m, z, le-ltb (length bytes) (length bytes) (omega arith))

  module _ (text : List ℕ) (texts : List (List ℕ)) (e : complete_lines (drop at bytes) ≡ text ∷ texts) where
    next-some : next_line bytes at ≡ pick (over_long text) (OverLong (suc (at + length text))) (Ended (suc (at + length text)))
    unfolding next_line over_long
    next-some =
        let n : line_length (drop at bytes) ≡ length text = (subst (λ x. Before (drop at bytes) x) e (before-all (drop at bytes))).0 in
        let m : min at (length bytes) ≡ at = omega (arith, l) in
        rw (n, m, lt-ltb (at + length text) (length bytes) (omega (arith, (following (drop at bytes) text texts e).0, length-drop at bytes)))

    some-text : take (length text) (drop at bytes) ≡ text
    some-text = (subst (λ x. Before (drop at bytes) x) e (before-all (drop at bytes))).1

-- a complete line from index at up to index end
pub record Complete (bytes : List ℕ) (at end : ℕ) (text : List ℕ) : Type 0 where
  pub first : complete_lines (drop at bytes) ≡ text ∷ complete_lines (drop end bytes)
  pub tail : unended (drop end bytes) ≡ unended (drop at bytes)
  pub size : at + suc (length text) ≡ end
  pub inside : end ≤ length bytes

module _ (bytes : List ℕ) (at : ℕ) (l : at ≤ length bytes) where
  complete-some : (text : List ℕ) (texts : List (List ℕ)) → complete_lines (drop at bytes) ≡ text ∷ texts → Complete bytes at (suc (at + length text)) text
  complete-some text texts e =
      let f : Following (drop at bytes) (text ∷ texts) = following (drop at bytes) text texts e in
      let k : suc (at + length text) ≡ at + suc (length text) = omega arith in
      let d : drop (suc (length text)) (drop at bytes) ≡ drop (suc (at + length text)) bytes = drop-drop (suc (length text)) at bytes ∙ ap (λ (n : ℕ). drop n bytes) (sym k) in
      record {
        first = e ∙ ap (λ (x : List (List ℕ)). text ∷ x) (sym f.1.0 ∙ ap complete_lines d);
        tail = sym (ap unended d) ∙ f.1.1;
        size = sym k;
        inside = omega (arith, f.0, length-drop at bytes);
      }

  -- the part of the bytes that is its text
  text-part : (text : List ℕ) (end : ℕ) → take (length text) (drop at bytes) ≡ text → end ≡ suc (at + length text) → take (end - 1 - at) (drop at bytes) ≡ text
  text-part text end e q = let k : end - 1 - at ≡ length text = omega (arith, q) in rw k e

  module _ (v : NextLine) (q : v ≡ next_line bytes at) where
    unended-in : (ls : List (List ℕ)) (end : ℕ) → complete_lines (drop at bytes) ≡ ls → v ≡ Unended end → (complete_lines (drop at bytes) ≡ []) × (end ≡ length bytes)
    unended-in [] end e u = let w : Unended end ≡ Unended (length bytes) = sym u ∙ (q ∙ next-none bytes at l e) in (e, cc)
    unended-in (text ∷ texts) end e u = clash (over_long text) (sym u ∙ (q ∙ next-some bytes at l text texts e)) where
      clash : (r : Bool) → Unended end ≡ pick r (OverLong (suc (at + length text))) (Ended (suc (at + length text))) → (complete_lines (drop at bytes) ≡ []) × (end ≡ length bytes)
      clash true w = let z : ◌≡◌ {A = ℕ} 0 1 = cc in absurd (omega arith)
      clash false w = let z : ◌≡◌ {A = ℕ} 0 1 = cc in absurd (omega arith)

    abbrev Found : Bool → ℕ → Type 0
    Found r end = Complete bytes at end (take (end - 1 - at) (drop at bytes)) × (over_long (take (end - 1 - at) (drop at bytes)) ≡ r)

    found : (text : List ℕ) (texts : List (List ℕ)) (r : Bool) (end : ℕ) → complete_lines (drop at bytes) ≡ text ∷ texts → over_long text ≡ r → end ≡ suc (at + length text) → Found r end
    found text texts r end e o k =
        let t : take (end - 1 - at) (drop at bytes) ≡ text = text-part text end (some-text bytes at l text texts e) k in
        rw (t, k) (complete-some text texts e, o)

    -- a line with its newline: over-long by r
    abbrev line_of : Bool → ℕ → NextLine
    line_of r end = pick r (OverLong end) (Ended end)

    found-by : (text : List ℕ) (texts : List (List ℕ)) (r o : Bool) (end : ℕ) → complete_lines (drop at bytes) ≡ text ∷ texts → over_long text ≡ o → line_of r end ≡ line_of o (suc (at + length text)) → Found r end
    found-by text texts true true end e h w = found text texts true end e h cc
    found-by text texts false false end e h w = found text texts false end e h cc
    found-by text texts true false end e h w = let z : ◌≡◌ {A = ℕ} 0 1 = cc in absurd (omega arith)
    found-by text texts false true end e h w = let z : ◌≡◌ {A = ℕ} 0 1 = cc in absurd (omega arith)

    none-by : (r : Bool) (end size : ℕ) → line_of r end ≡ Unended size → Found r end
    none-by true end size w = let z : ◌≡◌ {A = ℕ} 0 1 = cc in absurd (omega arith)
    none-by false end size w = let z : ◌≡◌ {A = ℕ} 0 1 = cc in absurd (omega arith)

    line-in : (r : Bool) (ls : List (List ℕ)) (end : ℕ) → complete_lines (drop at bytes) ≡ ls → v ≡ line_of r end → Found r end
    line-in r [] end e u = none-by r end (length bytes) (sym u ∙ (q ∙ next-none bytes at l e))
    line-in r (text ∷ texts) end e u = found-by text texts r (over_long text) end e refl (sym u ∙ (q ∙ next-some bytes at l text texts e))

    pub unended-line : (end : ℕ) → v ≡ Unended end → (complete_lines (drop at bytes) ≡ []) × (end ≡ length bytes)
    unended-line end u = unended-in (complete_lines (drop at bytes)) end refl u

    pub ended-line : (end : ℕ) → v ≡ Ended end → Complete bytes at end (take (end - 1 - at) (drop at bytes)) × (over_long (take (end - 1 - at) (drop at bytes)) ≡ false)
    ended-line end u = line-in false (complete_lines (drop at bytes)) end refl u

    pub over-long-line : (end : ℕ) → v ≡ OverLong end → Complete bytes at end (take (end - 1 - at) (drop at bytes)) × (over_long (take (end - 1 - at) (drop at bytes)) ≡ true)
    over-long-line end u = line-in true (complete_lines (drop at bytes)) end refl u
