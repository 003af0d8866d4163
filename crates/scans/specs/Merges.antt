-- Elements laid over others where a test of their index says so. A reader must believe `merged`: a payload is laid
-- over the store by it.
use Rattle.std.specs.Prelude.{ℕ, suc, List, [], ◌∷◌, Bool}
use Rattle.bits.specs.Choice.{pick}

-- ds over xs, element by element from index k on, where f holds of the index
unfoldable pub merged : (ℕ → Bool) → ℕ → List ℕ → List ℕ → List ℕ
merged f k [] xs = xs
merged f k (d ∷ ds) [] = []
merged f k (d ∷ ds) (x ∷ xs) = pick (f k) d x ∷ merged f (suc k) ds xs
