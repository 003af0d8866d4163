use Rattle.tlp.proofs.FmtLaws.{listed-laws}
use borrow.Author.Rules.{rules}
use Rattle.tlp.proofs.packet_type.is_listed.Goals as goal

pub returns-then-b0-lt128 : goal.returns-then-b0-lt128
returns-then-b0-lt128 c = search (listed-laws, rules)

pub returns-else-b0-lt128 : goal.returns-else-b0-lt128
returns-else-b0-lt128 c = search (listed-laws, rules)
