-- For the contracts of this crate's own functions: the room that they ask for.
use Rattle.std.specs.Prelude.{ℕ, ◌+◌, ◌*◌, ◌≤◌, List, length}
use Rattle.capture_decode.specs.Printed.{printed_each}

-- room from index at on for the most that so many bytes of lines print
abbrev pub Room : ℕ → ℕ → List ℕ → Type 0
Room at size out = at + printed_each * size ≤ length out
