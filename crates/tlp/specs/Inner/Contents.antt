-- Serves the contracts of `content::memory_fault` and `content::register_fault`.
use Rattle.std.specs.Prelude.{ℕ, not, List, [], ◌∷◌}
use Rattle.byte_enables.specs.declared.Access.{Access}
use Rattle.byte_enables.specs.Enables.{enables_allowed}
use Rattle.tlp.specs.Rows.{Row, row}
use Rattle.tlp.specs.Contents.{not_plain, ruled_as_one, crosses_page}

-- those of the rows 6 to 8 that can hold of a memory request, and of I/O and configuration; of other families none can
abbrev pub memory_rows : Access → List Row
memory_rows a = row 7 (not (enables_allowed a)) ∷ row 8 (crosses_page a) ∷ []

abbrev pub register_rows : Access → ℕ → ℕ → ℕ → List Row
register_rows a tc attr at = row 6 (not_plain a.length tc attr at) ∷ row 7 (not (enables_allowed (ruled_as_one a))) ∷ []
