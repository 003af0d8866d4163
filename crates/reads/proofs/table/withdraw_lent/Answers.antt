use borrow.Author.Rules.{rules}
use Rattle.reads.proofs.TableLaws.{withdraw-laws}
use Rattle.reads.proofs.table.withdraw_lent.Goals as goal

pub returns-in_err-withdraw_fault : goal.returns-in_err-withdraw_fault
returns-in_err-withdraw_fault c = search (withdraw-laws, rules)

pub returns : goal.returns
returns c = search (withdraw-laws, rules)
