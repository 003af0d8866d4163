-- Why the bytes from enabled_from up to enabled_to need no test.
use Prim.Native.Nat.{ℕ, zero, suc, ◌+◌, ◌-◌, ◌*◌, ◌/◌, ◌%◌, ◌≤◌, ◌<◌}
use mathlib.Core.Path.{◌≡◌, refl}
use mathlib.Core.Bool.{Bool, true, false}
use native.Mathlib.Omega.{arith}
use lib.Dec.{eqb, leb}
use borrow.Author.Tests.{eqb-true, leb-true, lt-leb}
use Rattle.bits.specs.Choice.{pick}
use Rattle.bits.specs.Field.{bit}
use Rattle.byte_enables.specs.declared.Access.{Access}
use Rattle.byte_enables.specs.Enables.{enables_at, enabled}

each-bit : (j : ℕ) → j < 4 → bit 0b1111 j ≡ true
each-bit zero h = refl
each-bit (suc zero) h = refl
each-bit (suc (suc zero)) h = refl
each-bit (suc (suc (suc zero))) h = refl
each-bit (suc (suc (suc (suc j)))) h = absurd (omega arith)

module _ (a : Access) (from to : ℕ) (f : from < 4 → a.first % 16 ≡ 15) (t : (to ≤ 4 * a.length) × (4 * a.length - 4 < to → a.last % 16 ≡ 15)) where
  module _ (k : ℕ) (h : from ≤ k) (l : k < to) where
    -- the doubleword of byte k is neither a first nor a last one that was left out
    last : (b : Bool) → eqb (k / 4 + 1) a.length ≡ b → pick b (a.last % 16) 15 ≡ 15
    last false e = refl
    last true e = let z : k / 4 + 1 ≡ a.length = eqb-true (k / 4 + 1) a.length e in t.1 (omega arith)

    first : (b : Bool) → eqb (k / 4) 0 ≡ b → pick b (a.first % 16) (pick (eqb (k / 4 + 1) a.length) (a.last % 16) 15) ≡ 15
    first false e = last (eqb (k / 4 + 1) a.length) refl
    first true e = let z : k / 4 ≡ 0 = eqb-true (k / 4) 0 e in f (omega arith)

    at : enables_at a (k / 4) ≡ 15
    unfolding enables_at
    at = let z : k / 4 < a.length = omega arith in rw (lt-leb a.length (k / 4) z) (first (eqb (k / 4) 0) refl)

    within : enabled a k ≡ true
    unfolding enabled
    within = rw at (each-bit (k % 4) (omega arith))

  pub run-enabled : (k q w : ℕ) → from ≤ k → q ≡ to - k → w ≤ q → (i : ℕ) → i < w → enabled a (k + i) ≡ true
  run-enabled k q w h e u i l = within (k + i) (omega arith) (omega arith)

-- where both are 1111, nothing is left out
pub all-1111 : (a : Access) (k n q : ℕ) → a.first % 16 ≡ 15 → a.last % 16 ≡ 15 → q ≡ 4 * a.length - k → leb n q ≡ true → (i : ℕ) → i < n → enabled a (k + i) ≡ true
all-1111 a k n q f l e h = run-enabled a 0 (4 * a.length) (λ _. f) (omega arith, λ _. l) k q n (omega arith) e (leb-true n q h)
