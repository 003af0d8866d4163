use Rattle.tlp_read.proofs.ReadReturns.{access-law}
use Rattle.tlp_read.proofs.rows.Whole.memory_access.Goals as goal

pub returns : goal.returns
returns c = search access-law depth 8
