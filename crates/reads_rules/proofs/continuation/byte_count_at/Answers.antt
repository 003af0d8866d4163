use Rattle.reads_rules.proofs.ContinuationLaws.{count_of}
use Rattle.reads_rules.proofs.continuation.byte_count_at.Goals as goal

pub returns : goal.returns
returns c = search count_of
