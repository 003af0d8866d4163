use Rattle.tlp_write.proofs.WordLaws.{config-law}
use Rattle.tlp_write.proofs.words.config_words.Goals as goal

pub returns : goal.returns
returns c = search config-law
