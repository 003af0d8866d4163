use Rattle.std.proofs.Common.{◌-◌, ◌≤◌, length}
use Rattle.tlp_vectors.proofs.run_lines.Given as goal

abbrev pub invariant-loop-used : goal.invariant-loop-used
invariant-loop-used l = (l.used ≤ length l.text) × (l.lines ≤ l.used)

abbrev pub decreases-loop-used : goal.decreases-loop-used
decreases-loop-used l = length l.text - l.used
