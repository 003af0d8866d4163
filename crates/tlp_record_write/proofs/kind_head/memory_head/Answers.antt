use Rattle.tlp_record_write.proofs.KindHeadLaws.{memory-none, memory-some}
use Rattle.tlp_record_write.proofs.kind_head.memory_head.Goals as goal

pub returns-then-not-memory_fits : goal.returns-then-not-memory_fits
returns-then-not-memory_fits c = search memory-none

pub returns : goal.returns
returns c = search memory-some depth 10 fits 4000
