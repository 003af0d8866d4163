use borrow.Author.Rules.{rules}
use Rattle.tlp.specs.Rows.{first}
use Rattle.reads.proofs.OpenLaws.{fault-laws}
use Rattle.reads.proofs.open.fault_before_12.Goals as goal

pub returns-in_err-fault_before_24 : goal.returns-in_err-fault_before_24
unfolding first
returns-in_err-fault_before_24 c = search rules

pub returns-then-window_taken : goal.returns-then-window_taken
returns-then-window_taken c = search (fault-laws, rules)

pub returns : goal.returns
returns c = search (fault-laws, rules)
