use Rattle.reads.proofs.TakeLaws.{completion-laws, completion-stores, completion-fits}
use borrow.Author.Rules.{rules}
use Rattle.reads.proofs.take.completion_outcome.Goals as goal

pub slice_bounds-piece_outcome-end : goal.slice_bounds-piece_outcome-end
slice_bounds-piece_outcome-end c = search (completion-fits, rules)

pub returns-in-Err : goal.returns-in-Err
returns-in-Err c = record { value = search completion-laws; store_after = search completion-stores }

pub returns-in-Ok : goal.returns-in-Ok
returns-in-Ok c = record { value = search completion-laws; store_after = search completion-stores }
