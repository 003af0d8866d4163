-- A choice between two values by a test, a test as a number, and whether a number stands in a list. All to be believed:
-- the rules are written in them.
use Rattle.std.specs.Prelude.{ℕ, Bool, true, false, ◌||◌, List, [], ◌∷◌, eqb}

-- the first value where the test holds, else the second
abbrev pub pick : {A : Type 0} → Bool → A → A → A
pick true a b = a
pick false a b = b

-- a flag as a bit
abbrev pub flag : Bool → ℕ
flag true = 1
flag false = 0

-- whether x stands in the list
abbrev pub one_of : List ℕ → ℕ → Bool
one_of [] x = false
one_of (k ∷ ks) x = eqb x k || one_of ks x
