use Rattle.reads_rules.proofs.ContinuationLaws.{lower_of}
use Rattle.reads_rules.proofs.continuation.lower_address_at.Goals as goal

pub returns : goal.returns
returns c = search lower_of
