-- Tests on numbers and on truth values.
use Rattle.std.proofs.Common.{◌≡◌, ℕ, ◌<◌, ◌≤◌, Bool, true, false, ◌&&◌, ltb, leb, ◌⊎◌, sym, refl, ◌∙◌, inl, inr, ⊎_elim, arith, ltb-false, ltb-true, le-leb}
use borrow.Author.Tests.{lt-leb}

lt-or-le-by : (m n : ℕ) (t : Bool) → ltb m n ≡ t → (m < n) ⊎ (n ≤ m)
lt-or-le-by m n true e = inl (ltb-true m n e)
lt-or-le-by m n false e = inr (ltb-false m n e)

pub lt-or-le : (m n : ℕ) → (m < n) ⊎ (n ≤ m)
lt-or-le m n = lt-or-le-by m n (ltb m n) refl

-- two tests of which each follows from the other
pub leb-iff : (a b c d : ℕ) → (a ≤ b → c ≤ d) → (c ≤ d → a ≤ b) → leb a b ≡ leb c d
leb-iff a b c d f g =
    ⊎_elim
    (λ (h : b < a). ⊎_elim (λ (k : d < c). lt-leb a b h ∙ sym (lt-leb c d k)) (λ (k : c ≤ d). let z : a ≤ b = g k in absurd (omega arith)) (lt-or-le d c))
    (λ (h : a ≤ b). le-leb a b h ∙ sym (le-leb c d (f h)))
    (lt-or-le b a)

-- two facts, both true

pub and_left : (a b : Bool) → a && b ≡ true → a ≡ true
and_left true b h = refl
and_left false b h = h

pub and_right : (a b : Bool) → a && b ≡ true → b ≡ true
and_right true b h = h
and_right false true h = refl
and_right false false h = h

pub and_both : (a b : Bool) → a ≡ true → b ≡ true → a && b ≡ true
and_both a b h k = rw (h, k)
