-- Lines of an input that is joined from two parts: what the first part leaves unended is read again with the second.
use Prim.Native.Nat.{ℕ, suc, ◌+◌, ◌-◌, ◌≤◌}
use mathlib.Core.Path.{◌≡◌, refl, ◌∙◌, subst}
use mathlib.Core.Bool.{Bool, true, false}
use mathlib.Core.List.{List, [], ◌∷◌, ◌++◌}
use native.Mathlib.Nat.{sub_self}
use native.Mathlib.Omega.{arith}
use lib.ListN.{length, drop}
use Rattle.capture_lines.specs.Lines.{is_newline, line_with, complete_lines, tail_with, unended}

-- ---- a byte before others: it ends a line, or stands in the unended line, or in the first line

pub data Place (b : ℕ) (bytes : List ℕ) : Type 0 where
  ends : is_newline b ≡ true → Place b bytes
  unfinished : is_newline b ≡ false → complete_lines bytes ≡ [] → Place b bytes
  within : is_newline b ≡ false → (text : List ℕ) (texts : List (List ℕ)) → complete_lines bytes ≡ text ∷ texts → Place b bytes

place-by : (b : ℕ) (bytes : List ℕ) (t : Bool) (lines : List (List ℕ)) → is_newline b ≡ t → complete_lines bytes ≡ lines → Place b bytes
place-by b bytes true lines h e = ends h
place-by b bytes false [] h e = unfinished h e
place-by b bytes false (text ∷ texts) h e = within h text texts e

pub place : (b : ℕ) (bytes : List ℕ) → Place b bytes
place b bytes = place-by b bytes (is_newline b) (complete_lines bytes) refl refl

-- ---- the lines of two parts

pub complete-append : (x y : List ℕ) → complete_lines (x ++ y) ≡ complete_lines x ++ complete_lines (unended x ++ y)
unfolding complete_lines unended line_with tail_with
complete-append [] y = refl
complete-append (b ∷ bytes) y =
    elim (place b bytes) [
      | ends h ↦ rw (h, complete-append bytes y)
      | unfinished h e ↦ rw (h, e, h)
      | within h text texts e ↦ rw (h, complete-append bytes y, e)
    ]

pub unended-append : (x y : List ℕ) → unended (x ++ y) ≡ unended (unended x ++ y)
unfolding complete_lines unended line_with tail_with
unended-append [] y = refl
unended-append (b ∷ bytes) y =
    elim (place b bytes) [
      | ends h ↦ rw h (unended-append bytes y)
      | unfinished h e ↦ rw (h, e, h)
      | within h text texts e ↦ rw (h, complete-append bytes y, e) (unended-append bytes y)
    ]

-- ---- the unended line

-- it has no complete line
pub complete-unended : (x : List ℕ) → complete_lines (unended x) ≡ []
unfolding complete_lines unended line_with tail_with
complete-unended [] = refl
complete-unended (b ∷ bytes) =
    elim (place b bytes) [
      | ends h ↦ rw h (complete-unended bytes)
      | unfinished h e ↦ rw (h, e, h, e)
      | within h text texts e ↦ rw (h, e) (complete-unended bytes)
    ]

cons-not-nil : {A : Type 0} (a : A) (rest : List A) → a ∷ rest ≡ [] → ⊥
cons-not-nil a rest e = let z : ◌≡◌ {A = ℕ} 0 1 = cc in omega arith

-- and is all of bytes that have none
pub unended-all : (x : List ℕ) → complete_lines x ≡ [] → unended x ≡ x
unfolding complete_lines unended line_with tail_with
unended-all [] n = refl
unended-all (b ∷ bytes) n =
    elim (place b bytes) [
      | ends h ↦ absurd (cons-not-nil _ _ (rw h at n))
      | unfinished h e ↦ rw (h, e)
      | within h text texts e ↦ absurd (cons-not-nil _ _ (rw (h, e) at n))
    ]

pub unended-le : (x : List ℕ) → length (unended x) ≤ length x
unfolding complete_lines unended line_with tail_with
unended-le [] = omega arith
unended-le (b ∷ bytes) =
    elim (place b bytes) [
      | ends h ↦ rw h (omega (arith, unended-le bytes))
      | unfinished h e ↦ rw (h, e) (omega arith)
      | within h text texts e ↦ rw (h, e) (omega (arith, unended-le bytes))
    ]

-- each complete line has its newline
pub complete-le : (x : List ℕ) → length (complete_lines x) + length (unended x) ≤ length x
unfolding complete_lines unended line_with tail_with
complete-le [] = omega arith
complete-le (b ∷ bytes) =
    elim (place b bytes) [
      | ends h ↦ rw h (omega (arith, complete-le bytes))
      | unfinished h e ↦ rw (h, e) (omega arith)
      | within h text texts e ↦ rw (h, e) (omega (arith, rw e at (complete-le bytes)))
    ]

-- it stands at the end
drop_more : (b : ℕ) (bytes : List ℕ) (n : ℕ) → n ≤ length bytes → drop (suc (length bytes) - n) (b ∷ bytes) ≡ drop (length bytes - n) bytes
drop_more b bytes n l = let e : suc (length bytes) - n ≡ suc (length bytes - n) = omega arith in rw e

pub drop-unended : (x : List ℕ) → drop (length x - length (unended x)) x ≡ unended x
unfolding complete_lines unended line_with tail_with
drop-unended [] = refl
drop-unended (b ∷ bytes) =
    elim (place b bytes) [
      | ends h ↦ rw h (drop_more b bytes _ (unended-le bytes) ∙ drop-unended bytes)
      | unfinished h e ↦ rw (h, e, sub_self (suc (length bytes)))
      | within h text texts e ↦ rw (h, e) (drop_more b bytes _ (unended-le bytes) ∙ drop-unended bytes)
    ]

-- ---- an unended line before further bytes: it stays unended, or begins the first line

pub data Continued (t y : List ℕ) : Type 0 where
  open-still : complete_lines y ≡ [] → complete_lines (t ++ y) ≡ [] → unended (t ++ y) ≡ t ++ y → Continued t y
  ended : (text : List ℕ) (texts : List (List ℕ)) → complete_lines y ≡ text ∷ texts → complete_lines (t ++ y) ≡ (t ++ text) ∷ texts → unended (t ++ y) ≡ unended y → Continued t y

continued-empty : (y : List ℕ) (lines : List (List ℕ)) → complete_lines y ≡ lines → Continued [] y
continued-empty y [] e = open-still e e (unended-all y e)
continued-empty y (text ∷ texts) e = ended text texts e e refl

continued-more : (b : ℕ) (t y : List ℕ) → is_newline b ≡ false → Continued t y → Continued (b ∷ t) y
unfolding complete_lines unended line_with tail_with
continued-more b t y h (open-still e f g) = open-still e (rw (h, f)) (rw (h, f))
continued-more b t y h (ended text texts e f g) = ended text texts e (rw (h, f)) (rw (h, f) g)

pub continued : (t y : List ℕ) → complete_lines t ≡ [] → Continued t y
unfolding complete_lines line_with
continued [] y n = continued-empty y (complete_lines y) refl
continued (b ∷ t) y n =
    elim (place b t) [
      | ends h ↦ absurd (cons-not-nil _ _ (rw h at n))
      | unfinished h e ↦ continued-more b t y h (continued t y e)
      | within h text texts e ↦ absurd (cons-not-nil _ _ (rw (h, e) at n))
    ]

-- ---- the first line, and what follows it

abbrev pub Following : List ℕ → List (List ℕ) → Type 0
Following bytes [] = unended bytes ≡ bytes
Following bytes (text ∷ texts) =
    (suc (length text) ≤ length bytes) × ((complete_lines (drop (suc (length text)) bytes) ≡ texts) × (unended (drop (suc (length text)) bytes) ≡ unended bytes))

pub following-all : (bytes : List ℕ) → Following bytes (complete_lines bytes)
unfolding complete_lines unended line_with tail_with
following-all [] = refl
following-all (b ∷ bytes) =
    elim (place b bytes) [
      | ends h ↦ rw h (omega arith, (refl, rw h))
      | unfinished h e ↦ rw (h, e) (rw (h, e))
      | within h text texts e ↦ let f : Following bytes (text ∷ texts) = subst (λ x. Following bytes x) e (following-all bytes) in rw (h, e) (omega (arith, f.0), (f.1.0, rw (h, e) f.1.1))
    ]

pub following : (bytes text : List ℕ) (texts : List (List ℕ)) → complete_lines bytes ≡ text ∷ texts → Following bytes (text ∷ texts)
following bytes text texts e = subst (λ x. Following bytes x) e (following-all bytes)
