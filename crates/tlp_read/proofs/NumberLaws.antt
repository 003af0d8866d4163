-- The numbers of the reader's rows: none is 12 or 13, which say that there is no room, or that a line is bad.
use Prim.Native.Nat.{ℕ, ◌≤◌, zero-le}
use mathlib.Core.Path.{◌≡◌, refl}
use mathlib.Core.Bool.{Bool, true, false, ◌&&◌, and-eq-true_iff}
use mathlib.Core.List.{List, [], ◌∷◌}
use lib.Dec.{leb}
use borrow.Author.Tests.{leb-true}
use Rattle.bits.specs.Choice.{pick}
use Rattle.tlp.specs.Rows.{Row, first}
use Rattle.tlp.specs.declared.settings.Settings.{Settings}
use Rattle.tlp_read.specs.Read.{read_rows}

-- whether no row has a number above m
abbrev within : ℕ → List Row → Bool
within m [] = true
within m (r ∷ rs) = leb r.number m && within m rs

within-by : (m n later : ℕ) (t : Bool) → n ≤ m → later ≤ m → pick t n later ≤ m
within-by m n later true h k = h
within-by m n later false h k = k

first-most : (m : ℕ) (rs : List Row) → within m rs ≡ true → first rs ≤ m
unfolding first
first-most m [] h = zero-le
first-most m (r ∷ rs) h =
    let b = (and-eq-true_iff (leb r.number m) (within m rs)).0 h in
    within-by m r.number (first rs) r.holds (leb-true r.number m b.0) (first-most m rs b.1)

pub read-most : (c : Settings) (packet : List ℕ) → first (read_rows c packet) ≤ 11
read-most c packet = first-most 11 (read_rows c packet) refl
