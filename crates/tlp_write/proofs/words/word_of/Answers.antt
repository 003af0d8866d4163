use Rattle.tlp_write.proofs.WordLaws.{word-law}
use Rattle.tlp_write.proofs.words.word_of.Goals as goal

pub returns : goal.returns
returns c = search word-law
