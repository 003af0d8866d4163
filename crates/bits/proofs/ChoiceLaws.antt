-- Chains of tests with early returns, as code has them: a key of a list, any of several faults, all of several facts. Each return is `search LAWS`.
use mathlib.Core.Path.{◌≡◌, refl}
use mathlib.Core.Bool.{Bool, true, false, ◌||◌, ◌&&◌, not}
use Prim.Native.Nat.{ℕ, ◌≤◌, ◌<◌}
use lib.Dec.{eqb, leb}
use borrow.Author.Tests.{eq-eqb, ne_eqb, le-leb, lt-leb}
use Rattle.bits.specs.Choice.{pick}

-- a function of what is picked
pub pick-ap : {A B : Type 0} (f : A → B) (b : Bool) (x y : A) → f (pick b x y) ≡ pick b (f x) (f y)
pick-ap f true x y = refl
pick-ap f false x y = refl

-- one of a list of keys

pub key_here : (n k : ℕ) (t : Bool) → n ≡ k → true ≡ eqb n k || t
key_here n k t e = rw (eq-eqb n k e)

pub key-later : (n k : ℕ) (r t : Bool) → (n ≡ k → ⊥) → r ≡ t → r ≡ eqb n k || t
key-later n k r t h e = rw (ne_eqb n k h) e

pub key-last : (t : Bool) → t ≡ t || false
key-last true = refl
key-last false = refl

pub ruleset key_laws = (key_here, key-later, key-last)

-- any of several faults

module _ (t : Bool) where
  pub or-here : (r b : Bool) → r ≡ b → r ≡ true → true ≡ b || t
  or-here r b e h = rw (← e, h)

  pub or-ne : (a b : ℕ) → (a ≡ b → ⊥) → true ≡ not (eqb a b) || t
  or-ne a b h = rw (ne_eqb a b h)

  pub or-le : (a b : ℕ) → a ≤ b → true ≡ leb a b || t
  or-le a b h = rw (le-leb a b h)

module _ (t v : Bool) where
  pub or-next : (r b : Bool) → r ≡ b → r ≡ false → v ≡ t → v ≡ b || t
  or-next r b e h q = rw (← e, h) q

  pub or-eq : (a b : ℕ) → a ≡ b → v ≡ t → v ≡ not (eqb a b) || t
  or-eq a b h q = rw (eq-eqb a b h) q

  pub or_lt : (a b : ℕ) → b < a → v ≡ t → v ≡ leb a b || t
  or_lt a b h q = rw (lt-leb a b h) q

pub ruleset or-laws = (or-here, or-ne, or-le, or-next, or-eq, or_lt)

-- all of several facts

module _ (t : Bool) where
  pub and_no : (r b : Bool) → r ≡ b → r ≡ false → false ≡ b && t
  and_no r b e h = rw (← e, h)

  -- a number that a call gave
  pub and-ne : (a b r : ℕ) → r ≡ a → (r ≡ b → ⊥) → false ≡ eqb a b && t
  and-ne a b r e h = rw (← e, ne_eqb r b h)

module _ (t v : Bool) where
  pub and_yes : (r b : Bool) → r ≡ b → r ≡ true → v ≡ t → v ≡ b && t
  and_yes r b e h q = rw (← e, h) q

  pub and-eq : (a b r : ℕ) → r ≡ a → r ≡ b → v ≡ t → v ≡ eqb a b && t
  and-eq a b r e h q = rw (← e, eq-eqb r b h) q

pub ruleset and-laws = (and_no, and-ne, and_yes, and-eq)
