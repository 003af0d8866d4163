-- The listed sizes are the powers of two from 128 to 4096, computed for each number.
use Prim.Native.Nat.{ℕ, ◌≤◌}
use mathlib.Core.Path.{◌≡◌, refl, ap, ◌∙◌}
use mathlib.Core.Bool.{Bool, true, ◌||◌}
use native.Mathlib.Omega.{arith}
use lib.Dec.{eqb, ltb}
use lib.Count.{ones}
use borrow.Author.Tests.{le-ltb}
use Rattle.bits.specs.Choice.{one_of}
use Rattle.bits.specs.Count.{set_bits}
use Rattle.bits.proofs.CountLaws.{ones-set}
use Rattle.tlp.specs.Settings.{sizes}
use Rattle.tlp.proofs.FmtLaws.{all_below, below, agree, agree_same}

abbrev as_listed : ℕ → Bool
as_listed n = ltb n 128 || agree (eqb (set_bits 13 n) 1) (one_of sizes n)

sizes-checked : all_below 4097 as_listed ≡ true
unfolding set_bits
sizes-checked = refl

pub size-between : (n : ℕ) → 128 ≤ n → n ≤ 4096 → eqb (ones n) 1 ≡ one_of sizes n
size-between n l h =
    ap (λ (x : ℕ). eqb x 1) (ones-set 13 n (omega (arith, h)))
    ∙ agree_same _ _ (rw (le-ltb n 128 l) at (below 4097 as_listed sizes-checked n (omega (arith, h))))
