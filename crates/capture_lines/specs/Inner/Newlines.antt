-- For the contracts of newline_from and skipped_from.
use Rattle.std.specs.Prelude.{ℕ, ◌+◌, List, drop}
use Rattle.capture_lines.specs.Lines.{line_length}

-- the index of the first newline from index from on, or the end
abbrev pub newline_from : List ℕ → ℕ → ℕ
newline_from bytes from = from + line_length (drop from bytes)
