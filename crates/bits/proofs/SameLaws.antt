-- Laws of whether two lists are the same.
use Prim.Native.Nat.{ℕ}
use mathlib.Core.Path.{◌≡◌, refl, sym}
use mathlib.Core.Bool.{true, and-eq-true_iff, true≢false}
use mathlib.Core.List.{List, [], ◌∷◌}
use lib.Dec.{eqb}
use borrow.Author.Tests.{eq-eqb, eqb-true}
use Rattle.bits.specs.Same.{same_list}

pub same-yes : (xs ys : List ℕ) → same_list xs ys ≡ true → xs ≡ ys
same-yes [] [] e = refl
same-yes [] (y ∷ ys) e = absurd (true≢false (sym e))
same-yes (x ∷ xs) [] e = absurd (true≢false (sym e))
same-yes (x ∷ xs) (y ∷ ys) e =
    let h = (and-eq-true_iff (eqb x y) (same_list xs ys)).0 e in
    let p = eqb-true x y h.0 in
    let q = same-yes xs ys h.1 in
    cc

pub same_self : (xs : List ℕ) → same_list xs xs ≡ true
same_self [] = refl
same_self (x ∷ xs) = rw (eq-eqb x x refl, same_self xs)
