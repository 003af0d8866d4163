use mathlib.Core.Bool.{false≢true}
use borrow.Author.Rules.{rules}
use Rattle.reads_store.proofs.EnabledRuns.{all-1111}
use Rattle.reads_store.proofs.all_enabled.Goals.{then-a-eq15, else-a-eq15}
use Rattle.reads_store.proofs.all_enabled.Goals as goal

pub returns-then-a-eq15-2 : goal.returns-then-a-eq15-2
returns-then-a-eq15-2 c = elim c.if-a-eq15.branch [
  | then-a-eq15 w ↦ search (all-1111, rules)
  | else-a-eq15 w ↦ search (false≢true, rules)
]
