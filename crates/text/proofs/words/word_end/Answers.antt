use Rattle.text.proofs.WordLaws.{end-found}
use Rattle.text.proofs.words.word_end.Goals as goal

pub returns : goal.returns
returns c = end-found c.args.line.now c.args.at c.byte_from.result c.byte_from.ensures.within c.byte_from.ensures.behind c.byte_from.ensures.past c.byte_from.ensures.before c.byte_from.ensures.found
