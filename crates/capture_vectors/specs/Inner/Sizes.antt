-- For the contracts of this program's own functions: how much it takes at once.
use Rattle.std.specs.Prelude.{ℕ}

-- the bytes of the input's buffer: more than the longest frame
abbrev pub input_room : ℕ
input_room = 70000

-- printed_each bytes for each byte of the longest block behind the longest line
abbrev pub output_room : ℕ
output_room = 197200
