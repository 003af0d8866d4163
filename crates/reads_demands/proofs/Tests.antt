-- A test, and two joined.
use mathlib.Core.Path.{◌≡◌, refl}
use mathlib.Core.Logic.{◌⊎◌, inl, inr}
use mathlib.Core.Bool.{Bool, true, false, ◌||◌, ◌&&◌, not, true≢false}

pub true-or-false : (b : Bool) → (b ≡ true) ⊎ (b ≡ false)
true-or-false true = inl refl
true-or-false false = inr refl

-- none of two faults
pub neither : (a b : Bool) → a || b ≡ false → (a ≡ false) × (b ≡ false)
neither true b e = absurd (true≢false e)
neither false b e = (refl, e)

-- what is asked where a test holds
pub asked : (a b : Bool) → a ≡ true → a && not b ≡ false → b ≡ true
asked true true h e = refl
asked true false h e = absurd (true≢false e)
asked false b h e = absurd (true≢false (rw (← h) refl))
