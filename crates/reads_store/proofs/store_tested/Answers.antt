use mathlib.Core.Path.{refl}
use native.Mathlib.Omega.{arith}
use lib.ListN.{length-set}
use Rattle.scans.proofs.MergeSteps.{merge-steps}
use borrow.Author.Rules.{rules}
use Rattle.reads_store.proofs.store_tested.Goals as goal
use Rattle.reads_store.proofs.store_tested.Goals.{then-enabled_at, else-enabled_at}

pub loop-i-init : goal.loop-i-init
loop-i-init c = (refl, search merge-steps)

pub loop-i-preserved : goal.loop-i-preserved
loop-i-preserved c =
    elim c.if-enabled_at.branch [
      | then-enabled_at w ↦ (rw (w.part-is, length-set) (omega arith), rw w.part-is (search (merge-steps, rules)))
      | else-enabled_at w ↦ (rw w.part-is (omega arith), rw w.part-is (search (merge-steps, rules)))
    ]

pub returns : goal.returns
returns c = search (merge-steps, rules)
