-- Laws of the rules of continuing, in the words of the returns.
use Prim.Native.Nat.{ℕ, ◌+◌, ◌-◌, ◌*◌, ◌%◌, ◌^◌, ◌<◌}
use mathlib.Core.Path.{◌≡◌, refl, sym, ap, ◌∙◌}
use mathlib.Core.Bool.{Bool, true, false}
use native.Mathlib.Omega.{arith}
use native.Mathlib.Nat.{add-mod, mod-lt}
use lib.Dec.{eqb}
use borrow.Author.Tests.{eqb-true}
use Rattle.bits.specs.Choice.{pick}
use Rattle.byte_enables.specs.declared.Access.{Access}
use Rattle.byte_enables.specs.Enables.{off, trail, total}
use Rattle.reads_rules.specs.Continuations.{byte_count_at, lower_address_at}

-- ---- Byte Count and Lower Address

module _ (a : Access) (p : ℕ) where
  -- off counts at the read's start alone
  module _ (o : ℕ) (f : o ≡ pick (eqb p 0) (off a) 0) where
    count_at : 4 * (a.length - p) - (o + trail a) ≡ byte_count_at a p
    unfolding byte_count_at total
    count_at = rw f (go (eqb p 0) refl)
      where
        go : (b : Bool) → eqb p 0 ≡ b → 4 * (a.length - p) - (pick b (off a) 0 + trail a) ≡ pick b (4 * a.length - off a - trail a) (4 * (a.length - p) - trail a)
        go true e = let z = eqb-true p 0 e in omega arith
        go false e = omega arith

    lower-at : (a.address + 4 * p + o) % 128 ≡ lower_address_at a p
    unfolding lower_address_at
    lower-at = rw f (go (eqb p 0) refl)
      where
        go : (b : Bool) → eqb p 0 ≡ b → (a.address + 4 * p + pick b (off a) 0) % 128 ≡ pick b ((a.address + off a) % 128) ((a.address + 4 * p) % 128)
        go true e = let z = eqb-true p 0 e in omega arith
        go false e = omega arith

    pub count_of : (n : ℕ) → n ≡ 4 * (a.length - p) - (o + trail a) → n ≡ byte_count_at a p
    count_of n e = e ∙ count_at

    pub lower_of : (n : ℕ) → n ≡ (a.address + 4 * p + o) % 128 → n ≡ lower_address_at a p
    lower_of n e = e ∙ lower-at

-- ---- the boundary

pub boundary-mod : (m a b : ℕ) → eqb ((a % m + b % m) % m) 0 ≡ eqb ((a + b) % m) 0
boundary-mod m a b = ap (λ (x : ℕ). eqb x 0) (sym (add-mod a b m))

pub remainders-fit : (a b m : ℕ) → 0 < m → m < 2 ^ 32 → a % m + b % m < 2 ^ 64
remainders-fit a b m h k =
    let x = mod-lt a h in
    let y = mod-lt b h in
    omega arith
