-- One law for each return of `enabled_below`.
use mathlib.Core.Path.{◌≡◌, sym, ap, ◌∙◌}
use mathlib.Core.Logic.{◌⊎◌, inl, inr}
use Prim.Native.Nat.{ℕ, ◌+◌, ◌-◌, ◌*◌, ◌%◌, ◌≤◌, ◌<◌}
use native.Mathlib.Omega.{arith}
use Rattle.bits.specs.Count.{set_bits}
use Rattle.byte_enables.specs.declared.Access.{Access}
use Rattle.byte_enables.specs.Enables.{enabled_bytes}
use Rattle.byte_enables.proofs.Laws.{enabled-add, enabled-none, enabled-middle, enabled-first, enabled-last}

-- the enabled bytes of the first m doublewords

module _ (a : Access) (m : ℕ) where
  pub below-none : (m ≡ 0) ⊎ ((m ≡ 0 → ⊥) × (a.length ≡ 0)) → 0 ≡ enabled_bytes a 0 m
  unfolding enabled_bytes
  below-none (inl h) = rw h
  below-none (inr h) = sym (enabled-none a m 0 (omega (arith, h.1)))

  -- the first doubleword, and what follows it
  from_first : 0 < m → 0 < a.length → enabled_bytes a 0 m ≡ set_bits 4 (a.first % 16) + enabled_bytes a 1 (m - 1)
  from_first h l = ap (enabled_bytes a 0) (omega arith) ∙ enabled-add a 1 (m - 1) 0 ∙ ap (λ (n : ℕ). n + enabled_bytes a 1 (m - 1)) (enabled-first a l)

  module _ (f : ℕ) (e : f ≡ set_bits 4 (a.first % 16)) (p : m ≡ 0 → ⊥) (g : a.length ≡ 0 → ⊥) where
    pub below-part : m < a.length → f + 4 * (m - 1) ≡ enabled_bytes a 0 m
    below-part l = omega (arith, from_first (omega arith) (omega arith), enabled-middle a (m - 1) 1 (omega arith) (omega arith))

    pub below_one : a.length ≤ m → a.length ≡ 1 → f ≡ enabled_bytes a 0 m
    below_one l o = omega (arith, from_first (omega arith) (omega arith), enabled-none a (m - 1) 1 (omega arith))

    pub below-whole : (r : ℕ) → r ≡ set_bits 4 (a.last % 16) → a.length ≤ m → (a.length ≡ 1 → ⊥) → f + 4 * (a.length - 2) + r ≡ enabled_bytes a 0 m
    below-whole r k l o =
        let n = a.length in
        let m₁ : m - 1 ≡ (n - 2) + (1 + (m - n)) = omega arith in
        omega (arith, from_first (omega arith) (omega arith), ap (enabled_bytes a 1) m₁, enabled-add a (n - 2) (1 + (m - n)) 1, enabled-middle a (n - 2) 1 (omega arith) (omega arith), enabled-add a 1 (m - n) (1 + (n - 2)), enabled-last a (1 + (n - 2)) (omega arith) (omega arith), enabled-none a (m - n) (1 + (n - 2) + 1) (omega arith))

pub ruleset below_laws = (below-none, below-part, below_one, below-whole)
