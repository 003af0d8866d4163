use native.Mathlib.Omega.{arith}
use native.Mathlib.Nat.{zero-add}
use borrow.Author.Rules.{rules}
use Rattle.reads_slots.proofs.ScanLaws.{turn-laws}
use Rattle.reads_slots.proofs.open_tags.word_owed.Goals as goal

pub loop-rest-init : goal.loop-rest-init
loop-rest-init c = (omega arith, zero-add _)

pub lowest_bit-requires : goal.lowest_bit-requires
lowest_bit-requires c = search (turn-laws, rules)

pub overflow_add-from : goal.overflow_add-from
overflow_add-from c = search (turn-laws, rules)

pub read_at-requires : goal.read_at-requires
read_at-requires c = search (turn-laws, rules)

pub owed_of-requires : goal.owed_of-requires
owed_of-requires c = search (turn-laws, rules)

pub overflow_add-sum : goal.overflow_add-sum
overflow_add-sum c = search (turn-laws, rules)

pub without_lowest-rest-requires : goal.without_lowest-rest-requires
without_lowest-rest-requires c = search (turn-laws, rules)

pub loop-rest-smaller : goal.loop-rest-smaller
loop-rest-smaller c = search (turn-laws, rules)

pub loop-rest-preserved : goal.loop-rest-preserved
loop-rest-preserved c = (search (turn-laws, rules), search (turn-laws, rules))

pub returns : goal.returns
returns c = search (turn-laws, rules)
