use Rattle.tlp_write.proofs.WordLaws.{request-law}
use Rattle.tlp_write.proofs.words.io_words.Goals as goal

pub returns : goal.returns
returns c = search request-law
