use Rattle.calls_printed.proofs.Laws.{checksum-next, checksum-done}
use Rattle.calls_printed.proofs.checksum.checksum.Goals as goal

pub loop-b-preserved : goal.loop-b-preserved
loop-b-preserved c = search checksum-next

pub returns : goal.returns
returns c = search checksum-done
