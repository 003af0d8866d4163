use Rattle.tlp_read.proofs.ReadReturns.{header-laws}
use borrow.Author.Rules.{rules}
use Rattle.tlp_read.proofs.rows.header_size.Goals as goal

pub returns-then-is_wide : goal.returns-then-is_wide
returns-then-is_wide c = (search header-laws, search rules)

pub returns-else-is_wide : goal.returns-else-is_wide
returns-else-is_wide c = (search header-laws, search rules)
