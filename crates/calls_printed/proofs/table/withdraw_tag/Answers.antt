use Rattle.calls_printed.proofs.Laws.{handed-back}
use Rattle.calls_printed.proofs.table.withdraw_tag.Goals as goal

pub returns : goal.returns
returns c = search handed-back
