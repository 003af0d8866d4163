-- For the contracts of this program's own functions: how much it takes at once, how large its numbers get, and what a
-- turn finds.
use Rattle.std.specs.Prelude.{ℕ, ◌≤◌, ◌≡◌, List, length}
use Rattle.capture_lines.specs.Lines.{text_most}
use Rattle.decode.specs.declared.run.Run.{Run}

-- the bytes of the input's buffer, and so the most lines of a step
abbrev pub input_room : ℕ
input_room = 65536

-- printed_each bytes for each of them
abbrev pub output_room : ℕ
output_room = 524288

-- no run counts more lines before its last step
abbrev pub lines_most : ℕ
lines_most = 9223372036854775808

-- a run that keeps no more than a line, and counts so many lines at most
pub record Counted (most : ℕ) (run : Run) : Type 0 where
  pub kept : run.kept ≤ text_most
  pub lines : run.lines ≤ most
  pub refused : run.refused ≤ run.lines

-- what a turn finds: its buffers' sizes, and how far the run has come at most
pub record Ready (run : Run) (buf out : List ℕ) : Type 0 where
  pub input : length buf ≡ input_room
  pub output : length out ≡ output_room
  pub counted : Counted lines_most run
