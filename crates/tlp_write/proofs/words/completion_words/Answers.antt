use Rattle.tlp_write.proofs.WordLaws.{completion-law}
use Rattle.tlp_write.proofs.words.completion_words.Goals as goal

pub returns : goal.returns
returns c = search completion-law
