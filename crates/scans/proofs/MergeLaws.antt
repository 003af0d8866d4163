-- Elements laid over others: how many there are, which each one is, and what two steps lay.
use Prim.Native.Nat.{ℕ, zero, suc, ◌+◌, ◌≤◌, ◌<◌}
use mathlib.Core.Path.{◌≡◌, refl, ap}
use mathlib.Core.List.{List, [], ◌∷◌, ◌++◌}
use mathlib.Core.Bool.{Bool, true}
use native.Mathlib.Nat.{add-zero}
use native.Mathlib.Omega.{arith}
use lib.ListN.{length, get_or, take, drop, take-append-drop}
use Rattle.bits.specs.Choice.{pick}
use Rattle.scans.specs.Merges.{merged}

pub length_merged : (f : ℕ → Bool) (k : ℕ) (ds xs : List ℕ) → length (merged f k ds xs) ≡ length xs
unfolding merged
length_merged f k [] xs = refl
length_merged f k (d ∷ ds) [] = refl
length_merged f k (d ∷ ds) (x ∷ xs) = ap suc (length_merged f (suc k) ds xs)

-- where both have an element, the test chooses
pub merged-in : (f : ℕ → Bool) (k : ℕ) (ds xs : List ℕ) (i : ℕ) → i < length ds → i < length xs
    → get_or (merged f k ds xs) i 0 ≡ pick (f (k + i)) (get_or ds i 0) (get_or xs i 0)
unfolding merged
merged-in f k [] xs i h l = absurd (omega arith)
merged-in f k (d ∷ ds) [] i h l = absurd (omega arith)
merged-in f k (d ∷ ds) (x ∷ xs) zero h l = rw add-zero
merged-in f k (d ∷ ds) (x ∷ xs) (suc i) h l =
    let e : k + suc i ≡ suc k + i = omega arith in
    rw e (merged-in f (suc k) ds xs i (omega arith) (omega arith))

-- past what is laid over, all stays
pub merged-out : (f : ℕ → Bool) (k : ℕ) (ds xs : List ℕ) (i : ℕ) → length ds ≤ i → get_or (merged f k ds xs) i 0 ≡ get_or xs i 0
unfolding merged
merged-out f k [] xs i h = refl
merged-out f k (d ∷ ds) [] i h = refl
merged-out f k (d ∷ ds) (x ∷ xs) zero h = absurd (omega arith)
merged-out f k (d ∷ ds) (x ∷ xs) (suc i) h = merged-out f (suc k) ds xs i (omega arith)

-- nothing to lay over
pub merged-nil : (f : ℕ → Bool) (k : ℕ) (ds : List ℕ) → merged f k ds [] ≡ []
unfolding merged
merged-nil f k [] = refl
merged-nil f k (d ∷ ds) = refl

-- the first i elements, then the others
pub merged-split : (f : ℕ → Bool) (k i : ℕ) (ds xs : List ℕ) → merged f k (take i ds) (take i xs) ++ merged f (k + i) (drop i ds) (drop i xs) ≡ merged f k ds xs
unfolding merged
merged-split f k zero ds xs = rw add-zero
merged-split f k (suc i) [] xs = take-append-drop (suc i) xs
merged-split f k (suc i) (d ∷ ds) [] = merged-nil f (k + suc i) (drop i ds)
merged-split f k (suc i) (d ∷ ds) (x ∷ xs) =
    let e : k + suc i ≡ suc k + i = omega arith in
    rw (e, merged-split f (suc k) i ds xs)

-- where the test holds of every index, all is laid
pub merged-all : (f : ℕ → Bool) (k : ℕ) (ds xs : List ℕ) → length ds ≡ length xs → ((i : ℕ) → i < length ds → f (k + i) ≡ true) → merged f k ds xs ≡ ds
unfolding merged
merged-all f k [] [] z h = refl
merged-all f k [] (x ∷ xs) z h = absurd (omega arith)
merged-all f k (d ∷ ds) [] z h = absurd (omega arith)
merged-all f k (d ∷ ds) (x ∷ xs) z h =
    let t : f k ≡ true = rw add-zero at (h 0 (omega arith)) in
    rw (t, merged-all f (suc k) ds xs (omega arith) (λ i l. let e : k + suc i ≡ suc k + i = omega arith in rw e at (h (suc i) (omega arith))))
