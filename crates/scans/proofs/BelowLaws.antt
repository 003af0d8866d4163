-- Scans of the numbers below n: that say the same of each, nothing of any, in parts, with one number taken out, and the turns of a loop.
use Prim.Native.Nat.{ℕ, zero, suc, ◌+◌, ◌*◌, ◌≤◌, ◌<◌}
use native.Mathlib.Nat.{add-zero, add-suc, add_assoc, mul-suc}
use native.Mathlib.Omega.{arith}
use mathlib.Core.Path.{◌≡◌, refl, sym, ap, ◌∙◌}
use mathlib.Core.Bool.{Bool, true, false, ◌&&◌, ◌||◌, and_assoc, and-true, and-false, or_assoc, or-false, or-true}
use lib.Dec.{eqb}
use borrow.Author.Tests.{eqb-true, eqb-false}
use Rattle.scans.specs.Belows.{all_below, any_below, sum_below}

-- what is joined, how, and the scan by its equations
module _ {M : Type 0} (join : M → M → M) (unit : M) (assoc : (x y z : M) → join (join x y) z ≡ join x (join y z)) (right-unit : (x : M) → join x unit ≡ x)
    (below : ℕ → (ℕ → M) → M) (none : (f : ℕ → M) → below 0 f ≡ unit) (more : (k : ℕ) (f : ℕ → M) → below (suc k) f ≡ join (below k f) (f k)) where
  same : (f g : ℕ → M) (n : ℕ) → ((u : ℕ) → u < n → f u ≡ g u) → below n f ≡ below n g
  same f g zero h = none f ∙ sym (none g)
  same f g (suc n) h = rw (more n f, more n g, same f g n (λ u k. h u (omega arith)), h n (omega arith))

  empty : (f : ℕ → M) (n : ℕ) → ((u : ℕ) → u < n → f u ≡ unit) → below n f ≡ unit
  empty f zero h = none f
  empty f (suc n) h = rw (more n f, empty f n (λ u k. h u (omega arith)), h n (omega arith)) (right-unit unit)

  -- a + n numbers are a, and the n from there on, of which g says what f does
  parts : (f g : ℕ → M) (a n : ℕ) → ((b : ℕ) → b < n → g b ≡ f (a + b)) → below (a + n) f ≡ join (below a f) (below n g)
  parts f g a zero h = rw (add-zero a, none g, right-unit (below a f))
  parts f g a (suc n) h =
      rw (add-suc a n, more (a + n) f, more n g, parts f g a n (λ b k. h b (omega arith)), h n (omega arith)) (assoc (below a f) (below n g) (f (a + n)))

  -- nothing is said from a on
  ends : (f : ℕ → M) (a n : ℕ) → ((u : ℕ) → a ≤ u → f u ≡ unit) → below (a + n) f ≡ below a f
  ends f a n h = parts f (λ b. f (a + b)) a n (λ b k. refl) ∙ rw (empty (λ b. f (a + b)) n (λ b k. h (a + b) (omega arith)), right-unit (below a f))

-- ---- the three scans

pub all_same : (f g : ℕ → Bool) (n : ℕ) → ((u : ℕ) → u < n → f u ≡ g u) → all_below n f ≡ all_below n g
unfolding all_below
all_same = same ◌&&◌ true and_assoc and-true all_below (λ f. refl) (λ k f. refl)

pub any_same : (f g : ℕ → Bool) (n : ℕ) → ((u : ℕ) → u < n → f u ≡ g u) → any_below n f ≡ any_below n g
unfolding any_below
any_same = same ◌||◌ false or_assoc or-false any_below (λ f. refl) (λ k f. refl)

pub sum_same : (f g : ℕ → ℕ) (n : ℕ) → ((u : ℕ) → u < n → f u ≡ g u) → sum_below n f ≡ sum_below n g
unfolding sum_below
sum_same = same ◌+◌ 0 add_assoc add-zero sum_below (λ f. refl) (λ k f. refl)

pub all-empty : (f : ℕ → Bool) (n : ℕ) → ((u : ℕ) → u < n → f u ≡ true) → all_below n f ≡ true
unfolding all_below
all-empty = empty ◌&&◌ true and_assoc and-true all_below (λ f. refl) (λ k f. refl)

pub any-empty : (f : ℕ → Bool) (n : ℕ) → ((u : ℕ) → u < n → f u ≡ false) → any_below n f ≡ false
unfolding any_below
any-empty = empty ◌||◌ false or_assoc or-false any_below (λ f. refl) (λ k f. refl)

pub sum-empty : (f : ℕ → ℕ) (n : ℕ) → ((u : ℕ) → u < n → f u ≡ 0) → sum_below n f ≡ 0
unfolding sum_below
sum-empty = empty ◌+◌ 0 add_assoc add-zero sum_below (λ f. refl) (λ k f. refl)

pub all-parts : (f g : ℕ → Bool) (a n : ℕ) → ((b : ℕ) → b < n → g b ≡ f (a + b)) → all_below (a + n) f ≡ (all_below a f && all_below n g)
unfolding all_below
all-parts = parts ◌&&◌ true and_assoc and-true all_below (λ f. refl) (λ k f. refl)

pub any-parts : (f g : ℕ → Bool) (a n : ℕ) → ((b : ℕ) → b < n → g b ≡ f (a + b)) → any_below (a + n) f ≡ (any_below a f || any_below n g)
unfolding any_below
any-parts = parts ◌||◌ false or_assoc or-false any_below (λ f. refl) (λ k f. refl)

pub sum-parts : (f g : ℕ → ℕ) (a n : ℕ) → ((b : ℕ) → b < n → g b ≡ f (a + b)) → sum_below (a + n) f ≡ sum_below a f + sum_below n g
unfolding sum_below
sum-parts = parts ◌+◌ 0 add_assoc add-zero sum_below (λ f. refl) (λ k f. refl)

pub all-ends : (f : ℕ → Bool) (a n : ℕ) → ((u : ℕ) → a ≤ u → f u ≡ true) → all_below (a + n) f ≡ all_below a f
unfolding all_below
all-ends = ends ◌&&◌ true and_assoc and-true all_below (λ f. refl) (λ k f. refl)

pub any-ends : (f : ℕ → Bool) (a n : ℕ) → ((u : ℕ) → a ≤ u → f u ≡ false) → any_below (a + n) f ≡ any_below a f
unfolding any_below
any-ends = ends ◌||◌ false or_assoc or-false any_below (λ f. refl) (λ k f. refl)

pub sum-ends : (f : ℕ → ℕ) (a n : ℕ) → ((u : ℕ) → a ≤ u → f u ≡ 0) → sum_below (a + n) f ≡ sum_below a f
unfolding sum_below
sum-ends = ends ◌+◌ 0 add_assoc add-zero sum_below (λ f. refl) (λ k f. refl)

-- ---- one number that decides

pub all-fail : (f : ℕ → Bool) (n k : ℕ) → k < n → f k ≡ false → all_below n f ≡ false
unfolding all_below
all-fail f zero k h e = absurd (omega arith)
all-fail f (suc n) k h e = go (eqb k n) refl (all-fail f n k)
  where
    go : (b : Bool) → eqb k n ≡ b → (k < n → f k ≡ false → all_below n f ≡ false) → (all_below n f && f n) ≡ false
    go true q i = rw (← eqb-true k n q, e) (and-false (all_below k f))
    go false q i =
        let d = eqb-false k n q in
        rw (i (omega arith) e)

pub any-find : (f : ℕ → Bool) (n k : ℕ) → k < n → f k ≡ true → any_below n f ≡ true
unfolding any_below
any-find f zero k h e = absurd (omega arith)
any-find f (suc n) k h e = go (eqb k n) refl (any-find f n k)
  where
    go : (b : Bool) → eqb k n ≡ b → (k < n → f k ≡ true → any_below n f ≡ true) → (any_below n f || f n) ≡ true
    go true q i = rw (← eqb-true k n q, e) (or-true (any_below k f))
    go false q i =
        let d = eqb-false k n q in
        rw (i (omega arith) e)

-- ---- one number taken out of a sum: g says 0 of k, and what f does of every other

pub sum-out : (f g : ℕ → ℕ) (n k : ℕ) → k < n → g k ≡ 0 → ((u : ℕ) → (u ≡ k → ⊥) → g u ≡ f u) → f k + sum_below n g ≡ sum_below n f
unfolding sum_below
sum-out f g zero k h e o = absurd (omega arith)
sum-out f g (suc n) k h e o = go (eqb k n) refl (sum-out f g n k)
  where
    go : (b : Bool) → eqb k n ≡ b → (k < n → g k ≡ 0 → ((u : ℕ) → (u ≡ k → ⊥) → g u ≡ f u) → f k + sum_below n g ≡ sum_below n f) → f k + (sum_below n g + g n) ≡ sum_below n f + f n
    go true q i =
        let z = eqb-true k n q in
        let s = sum_same g f n (λ u l. o u (λ w. omega arith)) in
        let a : g n ≡ 0 = rw z at e in
        let b : f k ≡ f n = ap f z in
        omega arith
    go false q i =
        let d = eqb-false k n q in
        let s = i (omega arith) e o in
        let a = o n (λ w. d (sym w)) in
        omega arith

-- ---- a sum of numbers of which none is over k

pub sum-most : (f : ℕ → ℕ) (k n : ℕ) → ((u : ℕ) → f u ≤ k) → sum_below n f ≤ k * n
unfolding sum_below
sum-most f k zero h = omega arith
sum-most f k (suc n) h =
    let i = sum-most f k n h in
    let l = h n in
    rw (mul-suc k n) (omega arith)
