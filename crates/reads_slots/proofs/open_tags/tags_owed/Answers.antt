use borrow.Author.Rules.{rules}
use Rattle.reads_slots.proofs.ScanLaws.{scan-laws}
use Rattle.reads_slots.proofs.open_tags.tags_owed.Goals as goal

pub loop-j-init : goal.loop-j-init
loop-j-init c = search scan-laws

pub overflow_add-sum : goal.overflow_add-sum
overflow_add-sum c = search (scan-laws, rules)

pub loop-j-preserved : goal.loop-j-preserved
loop-j-preserved c = search (scan-laws, rules)

pub returns : goal.returns
returns c = search (scan-laws, rules)
