-- Faults joined by `||`: none of two, and each of two that give none.
use mathlib.Core.Path.{◌≡◌, refl}
use mathlib.Core.Bool.{Bool, true, false, ◌||◌, true≢false}

pub left-no : (a b : Bool) → a || b ≡ false → a ≡ false
left-no true b e = absurd (true≢false e)
left-no false b e = refl

pub right-no : (a b : Bool) → a || b ≡ false → b ≡ false
right-no true b e = absurd (true≢false e)
right-no false b e = e

pub or-false : {a b : Bool} → a ≡ false → b ≡ false → a || b ≡ false
or-false p q = rw (p, q)
