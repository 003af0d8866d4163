-- Serves the contracts of what keeps the rest of an input (src/main.rt).
use Rattle.std.specs.Prelude.{ℕ}

-- the most bytes of a line with its newline
abbrev pub line_most : ℕ
line_most = 8300
