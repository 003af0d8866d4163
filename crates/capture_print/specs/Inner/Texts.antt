-- For the contracts of a line that is being made.
use Rattle.std.specs.Prelude.{ℕ}

-- no line that is printed has more bytes
abbrev pub output_most : ℕ
output_most = 192

-- no number that is printed has more digits
abbrev pub number_most : ℕ
number_most = 64
