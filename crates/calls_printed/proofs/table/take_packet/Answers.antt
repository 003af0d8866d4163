use Rattle.calls_printed.proofs.Laws.{handed-back}
use Rattle.calls_printed.proofs.table.take_packet.Goals as goal

pub returns : goal.returns
returns c = search handed-back
