use Rattle.tlp_read.proofs.ReadReturns.{family-is, family-register, family-none}
use borrow.Author.Rules.{rules}
use Rattle.tlp_read.proofs.rows.Whole.fault.Goals as goal

pub memory_fault-requires : goal.memory_fault-requires
memory_fault-requires c = search (family-is, rules)

pub register_fault-requires : goal.register_fault-requires
register_fault-requires c = search (family-register, rules)

pub message_fault-requires : goal.message_fault-requires
message_fault-requires c = search (family-is, rules)

pub completion_fault-requires : goal.completion_fault-requires
completion_fault-requires c = search (family-is, rules)

pub returns-in-Unlisted : goal.returns-in-Unlisted
returns-in-Unlisted c = search family-none
