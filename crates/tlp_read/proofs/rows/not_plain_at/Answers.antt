use Rattle.tlp_read.proofs.ReadReturns.{plain-law}
use Rattle.tlp_read.proofs.rows.not_plain_at.Goals as goal

pub returns : goal.returns
returns c = search plain-law depth 8
