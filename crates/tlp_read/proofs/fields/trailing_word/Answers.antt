use Rattle.tlp_read.proofs.FieldReturns.{trailing-part}
use Rattle.tlp_read.proofs.fields.trailing_word.Goals as goal

pub returns : goal.returns
returns c = search trailing-part
