use Rattle.reads_rules.proofs.ContinuationLaws.{boundary-mod, remainders-fit}
use Rattle.reads_rules.proofs.continuation.on_multiple.Goals as goal

pub overflow_add-result : goal.overflow_add-result
overflow_add-result c = record { fits = search remainders-fit }

pub returns : goal.returns
returns c = search boundary-mod
