use Rattle.tlp_write.proofs.WordLaws.{message-law}
use Rattle.tlp_write.proofs.words.message_words.Goals as goal

pub returns : goal.returns
returns c = search message-law
