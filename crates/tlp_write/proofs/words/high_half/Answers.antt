use Rattle.tlp_write.proofs.WordLaws.{high-law}
use Rattle.tlp_write.proofs.words.high_half.Goals as goal

pub returns : goal.returns
returns c = search high-law
