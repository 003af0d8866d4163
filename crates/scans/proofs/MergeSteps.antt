-- The turns of a loop that merges ds into xs by an index i, in the words of the loop.
use Prim.Native.Nat.{ℕ, zero, suc, min, ◌+◌, ◌<◌, ◌≤◌}
use native.Mathlib.Nat.{add-zero}
use native.Mathlib.Numerals.{add-one}
use native.Mathlib.Omega.{arith}
use mathlib.Core.Path.{◌≡◌, refl, ap, ◌∙◌}
use mathlib.Core.Bool.{Bool, true, false}
use mathlib.Core.Logic.{◌⊎◌, inl, inr}
use mathlib.Core.List.{List, [], ◌∷◌, ◌++◌, append-nil}
use lib.Dec.{leb}
use lib.ListN.{length, take, drop, get_or, set, drop_of_length-le}
use lib.Seq.{take_all}
use borrow.Author.Tests.{leb-true, leb-false}
use Rattle.std.proofs.lemmas.List.{set-get_or}
use Rattle.bits.specs.Choice.{pick}
use Rattle.scans.specs.Merges.{merged}
use Rattle.scans.proofs.MergeLaws.{merged-nil, merged-split}

module _ (f : ℕ → Bool) where
  pub merged-none : (k : ℕ) (ds xs : List ℕ) → xs ≡ merged f k (take 0 ds) xs
  unfolding merged
  merged-none k ds xs = refl

  step : (k : ℕ) (ds xs : List ℕ) (i : ℕ) → i < length ds → i < length xs
      → merged f k (take (suc i) ds) xs ≡ set (merged f k (take i ds) xs) i (pick (f (k + i)) (get_or ds i 0) (get_or xs i 0))
  unfolding merged
  step k [] xs i h l = absurd (omega arith)
  step k (d ∷ ds) [] i h l = absurd (omega arith)
  step k (d ∷ ds) (x ∷ xs) zero h l = rw add-zero
  step k (d ∷ ds) (x ∷ xs) (suc i) h l =
      let e : k + suc i ≡ suc k + i = omega arith in
      rw (e, step (suc k) ds xs i (omega arith) (omega arith))

  keeps : (k : ℕ) (ds xs : List ℕ) (i : ℕ) → get_or (merged f k (take i ds) xs) i 0 ≡ get_or xs i 0
  unfolding merged
  keeps k [] xs zero = refl
  keeps k [] xs (suc i) = refl
  keeps k (d ∷ ds) xs zero = refl
  keeps k (d ∷ ds) [] (suc i) = refl
  keeps k (d ∷ ds) (x ∷ xs) (suc i) = keeps (suc k) ds xs i

  module _ (k : ℕ) (ds xs part : List ℕ) (i : ℕ) (inv : part ≡ merged f k (take i ds) xs) (h : i < length ds) (l : i < length part) (z : length part ≡ length xs)
      (r : Bool) (e : r ≡ f (k + i)) where
    -- one element more, that is laid
    pub merge-laid : r ≡ true → set part i (get_or ds i 0) ≡ merged f k (take (i + 1) ds) xs
    merge-laid t = rw (add-one, step k ds xs i h (omega arith), ← e, t, inv)

    -- or left
    pub merge-left : r ≡ false → part ≡ merged f k (take (i + 1) ds) xs
    merge-left t = rw (add-one, step k ds xs i h (omega arith), ← e, t, ← keeps k ds xs i, set-get_or, inv)

  cut : (k n : ℕ) (ds xs : List ℕ) → length xs ≤ n → merged f k (take n ds) xs ≡ merged f k ds xs
  cut k n ds xs h = rw (take_all n xs h, drop_of_length-le xs {i = n} h, merged-nil, append-nil) at (merged-split f k n ds xs)

  pub merge-full : (k : ℕ) (ds xs part : List ℕ) (i : ℕ) → part ≡ merged f k (take i ds) xs → length part ≡ length xs → length part ≤ i → part ≡ merged f k ds xs
  merge-full k ds xs part i inv z h = inv ∙ cut k i ds xs (omega arith)

  -- the loop has ended: all of one list is used
  pub merge-ends : (k : ℕ) (ds xs part : List ℕ) (i n : ℕ) → part ≡ merged f k (take i ds) xs → length part ≡ length xs → n ≡ min (length ds) (length xs) → n ≤ i → part ≡ merged f k ds xs
  merge-ends k ds xs part i n inv z e h = go (leb (length ds) (length xs)) refl
    where
      go : (b : Bool) → leb (length ds) (length xs) ≡ b → part ≡ merged f k ds xs
      go true x = let y = leb-true (length ds) (length xs) x in inv ∙ ap (λ (l : List ℕ). merged f k l xs) (take_all i ds (omega arith))
      go false x = let y = leb-false (length ds) (length xs) x in merge-full k ds xs part i inv z (omega arith)

  -- a part as long as either list takes all that is laid
  pub merged-part : (k n : ℕ) (ds xs : List ℕ) → (length ds ≤ n) ⊎ (length xs ≤ n) → merged f k ds (take n xs) ++ drop n xs ≡ merged f k ds xs
  unfolding merged
  merged-part k n ds xs (inl h) = rw (take_all n ds h, drop_of_length-le ds {i = n} h) at (merged-split f k n ds xs)
  merged-part k n ds xs (inr h) = rw (take_all n xs h, drop_of_length-le xs {i = n} h) (append-nil (merged f k ds xs))

pub ruleset merge-steps = (merged-none, merge-laid, merge-left, merge-ends)
