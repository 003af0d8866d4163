-- A table of numbers "in order of checking": the first row that holds gives its number. All to be believed.
use Rattle.std.specs.Prelude.{ℕ, ◌<◌, ◌≡◌, ◌⊎◌, ◌↔◌, Bool, true, false, ◌&&◌, List, [], ◌∷◌, leb}
use Rattle.bits.specs.Choice.{pick}

-- a row: the number, and whether what it is given for is the case
pub record Row : Type 0 where
  pub number : ℕ
  pub holds : Bool

abbrev pub row : ℕ → Bool → Row
row n b = record { number = n; holds = b }

-- the number of the first row that holds; 0 where none does
unfoldable pub first : List Row → ℕ
first [] = 0
first (r ∷ rs) = pick r.holds r.number (first rs)

-- ---- "Given exactly when"

-- n is the number of a row that holds, and no row before that one holds
abbrev pub Given : ℕ → List Row → Type 0
Given n [] = ⊥
Given n (r ∷ rs) = ((r.holds ≡ true) × (r.number ≡ n)) ⊎ ((r.holds ≡ false) × Given n rs)

-- no row holds
abbrev pub NoneHold : List Row → Type 0
NoneHold [] = Unit {0}
NoneHold (r ∷ rs) = (r.holds ≡ false) × NoneHold rs

-- no row has the number 0
abbrev pub numbered : List Row → Bool
numbered [] = true
numbered (r ∷ rs) = leb 1 r.number && numbered rs

-- A number is given exactly when its row holds and no earlier one does, and none exactly when no row holds. Proved in
-- proofs/RowLaws.antt.
abbrev pub GivenExactly : Type 0
GivenExactly = (rs : List Row) (n : ℕ) → 0 < n → (first rs ≡ n) ↔ Given n rs

abbrev pub NoneExactly : Type 0
NoneExactly = (rs : List Row) → numbered rs ≡ true → (first rs ≡ 0) ↔ NoneHold rs

-- A call is answered by a list of rows: its number is k exactly when a row of number k is given, and 0, for accepted,
-- exactly when no row holds.
pub record AnsweredBy (number : ℕ) (rs : List Row) : Type 0 where
  pub refused : (k : ℕ) → 0 < k → (number ≡ k) ↔ Given k rs
  pub accepted : (number ≡ 0) ↔ NoneHold rs
