-- Lists of bytes, put together: each number is below 256.
use Prim.Native.Nat.{ℕ, zero, suc, ◌<◌}
use mathlib.Core.Bool.{Bool, true, false}
use mathlib.Core.List.{List, [], ◌∷◌, ◌++◌}
use native.Mathlib.Omega.{arith}
use Rattle.bits.specs.Choice.{pick}
use Rattle.bits.specs.Word.{bytes, Bytes}
use Rattle.bits.proofs.WordLaws.{bytes_small}

-- each number of a list is a byte, one after the other
abbrev pub Each : List ℕ → Type 0
Each [] = Unit {0}
Each (x ∷ xs) = (x < 256) × Each xs

pub each-bytes : (xs : List ℕ) → Each xs → Bytes xs
each-bytes [] h zero = omega arith
each-bytes [] h (suc i) = omega arith
each-bytes (x ∷ xs) h zero = h.0
each-bytes (x ∷ xs) h (suc i) = each-bytes xs h.1 i

pub bytes-each : (xs : List ℕ) → Bytes xs → Each xs
bytes-each [] h = tt
bytes-each (x ∷ xs) h = (h 0, bytes-each xs (λ i. h (suc i)))

pub each_append : (xs ys : List ℕ) → Each xs → Each ys → Each (xs ++ ys)
each_append [] ys h k = k
each_append (x ∷ xs) ys h k = (h.0, each_append xs ys h.1 k)

pub each_of : (k x : ℕ) → Each (bytes k x)
each_of k x = bytes-each (bytes k x) (bytes_small k x)

pub each-pick : (b : Bool) (xs ys : List ℕ) → Each xs → Each ys → Each (pick b xs ys)
each-pick true xs ys h k = h
each-pick false xs ys h k = k
