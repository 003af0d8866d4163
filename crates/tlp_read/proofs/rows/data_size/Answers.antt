use Rattle.tlp_read.proofs.ReadReturns.{data-laws}
use borrow.Author.Rules.{rules}
use Rattle.tlp_read.proofs.rows.data_size.Goals as goal

pub returns-then-data_follows : goal.returns-then-data_follows
returns-then-data_follows c = (search data-laws, search rules)

pub returns-else-data_follows : goal.returns-else-data_follows
returns-else-data_follows c = (search data-laws, search rules)
