use Rattle.calls_printed.proofs.Laws.{handed-back}
use Rattle.calls_printed.proofs.table.make_new.Goals as goal

pub returns-clause-value : goal.returns-clause-value
returns-clause-value c = search handed-back
