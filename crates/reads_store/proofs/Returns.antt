-- One law for each return of the code.
use Prim.Native.Nat.{ℕ, min, ◌+◌, ◌-◌, ◌*◌, ◌≤◌, ◌<◌}
use mathlib.Core.Path.{◌≡◌, refl, sym, ◌∙◌}
use mathlib.Core.Logic.{◌⊎◌, inl, inr}
use mathlib.Core.List.{List, ◌++◌, append-nil}
use mathlib.Core.Bool.{Bool, true, false}
use native.Mathlib.Omega.{arith}
use lib.Dec.{leb}
use lib.ListN.{length, take, drop, length-append, length-take, length-drop, drop_of_length-le}
use lib.Seq.{take_all, take_at, drop_at, take-length, drop-length, length-take-le}
use borrow.Author.Tests.{leb-true, leb-false}
use Rattle.byte_enables.specs.Enables.{enabled}
use Rattle.scans.specs.Merges.{merged}
use Rattle.scans.proofs.MergeLaws.{length_merged, merged-nil, merged-split, merged-all}
use Rattle.scans.proofs.MergeSteps.{merge-full, merged-part}
use Rattle.reads_rules.specs.declared.request.ReadRequest.{ReadRequest}
use Rattle.reads_store.specs.Stores.{stored}

-- the lesser of two lengths is one of them
fits : (m l n : ℕ) → n ≡ min m l → (m ≤ n) ⊎ (l ≤ n)
fits m l n e = go (leb m l) refl
  where
    go : (b : Bool) → leb m l ≡ b → (m ≤ n) ⊎ (l ≤ n)
    go true x = let y = leb-true m l x in inl (omega arith)
    go false x = let y = leb-false m l x in inr (omega arith)

module _ (f : ℕ → Bool) (k i : ℕ) (ds xs ys : List ℕ) where
  -- the first i bytes, all of them enabled
  front-enabled : i ≤ length ds → i ≤ length xs → ((j : ℕ) → j < i → f (k + j) ≡ true) → merged f k (take i ds) (take i xs) ≡ take i ds
  front-enabled h l t =
      let m : length (take i ds) ≡ i = length-take-le i ds h in
      let n : length (take i xs) ≡ i = length-take-le i xs l in
      merged-all f k (take i ds) (take i xs) (omega arith) (λ j b. t j (omega arith))

  -- these copied
  pub laid-copy : i ≤ length ds → i ≤ length xs → ((j : ℕ) → j < i → f (k + j) ≡ true)
      → ys ≡ take i ds → ys ≡ merged f k (take i ds) (take i xs)
  laid-copy h l t e = e ∙ sym (front-enabled h l t)

  -- these copied, and no others are left
  pub laid-front : (r : Bool) → i ≡ min (length ds) (length xs) → r ≡ true → (r ≡ true → (j : ℕ) → j < i → f (k + j) ≡ true)
      → ys ≡ take i ds ++ drop i xs → ys ≡ merged f k ds xs
  laid-front r e h t g =
      let c : merged f k (take i ds) (take i xs) ≡ take i ds = front-enabled (omega arith) (omega arith) (t h) in
      let m : length (take i xs) ≤ i = simp length-take (omega arith) in
      let z : length (take i ds) ≡ length (take i xs) = rw (← c) (length_merged f k (take i ds) (take i xs)) in
      let a : take i ds ≡ merged f k ds (take i xs) = merge-full f k ds (take i xs) (take i ds) i (sym c) z (omega arith) in
      g ∙ rw a (merged-part f k i ds xs (fits (length ds) (length xs) i e))

  -- a part that is lent in two: its first i bytes, then the others
  pub laid-two : (n : ℕ) (zs : List ℕ) → i ≤ n → n ≤ length xs → ys ≡ merged f k (take i ds) (take i xs)
      → zs ≡ merged f (k + i) (take (length ds - i) (drop i ds)) (take (length (ys ++ drop i xs) - i) (drop i (ys ++ drop i xs)))
      → take i (ys ++ drop i xs) ++ (zs ++ drop (length (ys ++ drop i xs) - i) (drop i (ys ++ drop i xs))) ≡ merged f k ds xs
  laid-two n zs h l e g =
      let m : length ys ≡ i = rw (e, length_merged) (length-take-le i xs (omega arith)) in
      let s : length (ys ++ drop i xs) - i ≡ length (drop i xs) = rw (length-append, m) (omega arith) in
      let r : drop i (ys ++ drop i xs) ≡ drop i xs = drop_at ys (drop i xs) i m in
      let d : take (length ds - i) (drop i ds) ≡ drop i ds = take_all (length ds - i) (drop i ds) (rw length-drop (omega arith)) in
      let z : zs ≡ merged f (k + i) (drop i ds) (drop i xs) = rw (s, r, d, take-length) at g in
      rw (s, r, take_at ys (drop i xs) i m, drop-length, append-nil, z, e) (merged-split f k i ds xs)

module _ (q : ReadRequest) (p : ℕ) (ds st : List ℕ) where
  nothing-fits : length st ≤ q.start + 4 * p → st ≡ stored q p ds st
  unfolding stored
  nothing-fits h = sym (rw (take_all (q.start + 4 * p) st h, drop_of_length-le st {i = q.start + 4 * p} h, merged-nil) (append-nil st))

  pub stored-beyond : length st < q.start → st ≡ stored q p ds st
  stored-beyond h = nothing-fits (omega arith)

  pub stored_short : length st - q.start < 4 * p → st ≡ stored q p ds st
  stored_short h = nothing-fits (omega arith)

  -- a lent part that is as long as the payload, or reaches to the store's end
  pub stored-part : (n : ℕ) (ys : List ℕ) → q.start ≤ length st → 4 * p ≤ length st - q.start → n ≡ min (length ds) (length st - (q.start + 4 * p))
      → ys ≡ merged (enabled q.access) (4 * p) ds (take (q.start + 4 * p + n - (q.start + 4 * p)) (drop (q.start + 4 * p) st))
      → take (q.start + 4 * p) st ++ (ys ++ drop (q.start + 4 * p + n - (q.start + 4 * p)) (drop (q.start + 4 * p) st)) ≡ stored q p ds st
  unfolding stored
  stored-part n ys h l z e =
      let k : q.start + 4 * p + n - (q.start + 4 * p) ≡ n = omega arith in
      rw (e, k, merged-part (enabled q.access) (4 * p) n ds (drop (q.start + 4 * p) st) (fits (length ds) (length (drop (q.start + 4 * p) st)) n (rw length-drop z)))

pub ruleset stored-laws = (laid-copy, laid-front, laid-two, stored-beyond, stored_short, stored-part)
