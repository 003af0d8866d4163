use Rattle.std.proofs.Common.{◌≡◌, ltb, length, ◌||◌, drop}
use Rattle.capture_lines.specs.Lines.{line_length}
use Rattle.capture_lines.proofs.has_newline.Given as goal

abbrev pub invariant-loop-b : goal.invariant-loop-b
invariant-loop-b l = l.found || ltb (line_length (drop l.b-index l.bytes)) (length (drop l.b-index l.bytes)) ≡ ltb (line_length l.bytes) (length l.bytes)
