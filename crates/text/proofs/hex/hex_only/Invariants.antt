use Rattle.std.proofs.Common.{◌≡◌, ◌&&◌, drop}
use Rattle.text.specs.Digit.{all_digits}
use Rattle.text.proofs.hex.hex_only.Given as goal

abbrev pub invariant-loop-b : goal.invariant-loop-b
invariant-loop-b l = l.good && all_digits 16 (drop l.b-index l.text) ≡ all_digits 16 l.text
