use Rattle.std.proofs.Common.{◌≡◌, ◌+◌, ◌≤◌}
use Rattle.text.specs.Number.{digit_count}
use Rattle.text.proofs.number.digit_count.Given as goal

abbrev pub invariant-loop-m : goal.invariant-loop-m
invariant-loop-m l = (l.m ≤ l.n) × ((l.k + l.m ≤ l.n + 1) × (l.k + digit_count l.base l.m ≡ digit_count l.base l.n + 1))

abbrev pub decreases-loop-m : goal.decreases-loop-m
decreases-loop-m l = l.m
