use Rattle.text.proofs.WordLaws.{clipped}
use Rattle.text.proofs.words.part.Goals as goal

pub returns : goal.returns
returns c = search clipped
