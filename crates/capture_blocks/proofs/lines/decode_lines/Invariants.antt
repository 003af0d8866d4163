use Prim.Native.Nat.{◌-◌}
use lib.ListN.{length}
use Rattle.capture_blocks.proofs.LinesLaws.{Going}
use Rattle.capture_blocks.proofs.lines.decode_lines.Given as goal

abbrev pub invariant-loop-line : goal.invariant-loop-line
invariant-loop-line l = Going l.settings l.bytes l.from l.initial.out l.step l.out

abbrev pub decreases-loop-line : goal.decreases-loop-line
decreases-loop-line l = length l.bytes - l.step.used
