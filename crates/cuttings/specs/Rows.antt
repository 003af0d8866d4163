-- Rows of piece lengths, in doublewords. P1 to P3 cite `cuttings`, the list of all rows that are lawful for a read. To
-- be believed is `lawful_row`; that the list holds these rows and no others is the theorem `CuttingsExact`.
use Rattle.std.specs.Prelude.{ℕ, zero, suc, ◌+◌, ◌-◌, ◌*◌, ◌≡◌, ◌⊎◌, ◌↔◌, Bool, true, ◌&&◌, List, [], ◌∷◌, ◌++◌, map, eqb, leb}
use Rattle.bits.specs.Choice.{pick}
use Rattle.byte_enables.specs.declared.Access.{Access}
use Rattle.reads_rules.specs.Continuations.{cut_allowed}

-- of the lengths alone, from doubleword p on: "each legal in turn, none over MPS, ending at L"
unfoldable pub row_from : Access → ℕ → ℕ → ℕ → List ℕ → Bool
row_from a mps rcb p [] = eqb p a.length
row_from a mps rcb p (n ∷ ns) = cut_allowed rcb a p n && (leb (4 * n) mps && row_from a mps rcb (p + n) ns)

unfoldable pub lawful_row : Access → ℕ → ℕ → List ℕ → Bool
lawful_row a mps rcb ns = row_from a mps rcb 0 ns

-- the rows that begin with a length from most down to 1 that stands, each followed by what may follow it
abbrev pub starting_with : (ℕ → Bool) → (ℕ → List (List ℕ)) → ℕ → List (List ℕ)
starting_with stands tails zero = []
starting_with stands tails (suc n) =
    pick (stands (suc n)) (map (λ ns. suc n ∷ ns) (tails (suc n))) [] ++ starting_with stands tails n

-- the rows from doubleword p on; no more than k pieces
unfoldable pub rows_from : ℕ → Access → ℕ → ℕ → ℕ → List (List ℕ)
rows_from zero a mps rcb p = pick (eqb p a.length) ([] ∷ []) []
rows_from (suc k) a mps rcb p =
    pick (eqb p a.length) ([] ∷ [])
    (starting_with (λ n. cut_allowed rcb a p n && leb (4 * n) mps) (λ n. rows_from k a mps rcb (p + n)) (a.length - p))

-- every lawful row of a read; a piece has at least one doubleword, so there are no more pieces than doublewords
unfoldable pub cuttings : Access → ℕ → ℕ → List (List ℕ)
cuttings a mps rcb = rows_from a.length a mps rcb 0

abbrev pub Member : List ℕ → List (List ℕ) → Type 0
Member ns [] = ⊥
Member ns (ms ∷ mss) = (ns ≡ ms) ⊎ Member ns mss

-- the theorem: the list holds exactly the lawful rows
abbrev pub CuttingsExact : Type 0
CuttingsExact = (a : Access) (mps rcb : ℕ) (ns : List ℕ)
    → Member ns (cuttings a mps rcb) ↔ (lawful_row a mps rcb ns ≡ true)
