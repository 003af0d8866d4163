use Rattle.tlp_write.proofs.WriteLaws.{head-law}
use Rattle.tlp_write.proofs.head.head_of.Goals as goal

pub returns : goal.returns
returns c = search head-law
