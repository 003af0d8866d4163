use Rattle.tlp_read.proofs.ReadReturns.{last-ne}
use Rattle.tlp_read.proofs.rows.last_given.Goals as goal

pub returns : goal.returns
returns c = search last-ne
