use Rattle.reads_rules.proofs.RequestLaws.{not-bad}
use native.Mathlib.Omega.{arith}
use Rattle.reads_rules.proofs.validity.valid_read.Goals as goal

pub returns : goal.returns
returns c = rw c.read_bad.ensures (not-bad _ _ (omega arith))
