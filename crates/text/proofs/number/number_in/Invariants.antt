use Rattle.text.proofs.NumberLaws.{number_from}
use Rattle.std.proofs.Common.{◌≡◌, ◌≤◌, drop}
use Rattle.text.specs.Number.{number_in}
use Rattle.text.proofs.number.number_in.Given as goal

abbrev pub invariant-loop-b : goal.invariant-loop-b
invariant-loop-b l = (l.v ≤ l.most) × (number_from l.base l.most l.v (drop l.b-index l.text) ≡ number_in l.base l.most l.text)
