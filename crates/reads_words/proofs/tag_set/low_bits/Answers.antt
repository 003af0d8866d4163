use Rattle.reads_words.proofs.Returns.{lowest-laws}
use borrow.Author.Rules.{rules}
use Rattle.reads_words.proofs.tag_set.low_bits.Goals as goal

pub nonzero_rem-result : goal.nonzero_rem-result
nonzero_rem-result c = search (lowest-laws, rules)

pub returns-then-n-ge64 : goal.returns-then-n-ge64
returns-then-n-ge64 c = search (lowest-laws, rules)

pub returns-else-n-ge64 : goal.returns-else-n-ge64
returns-else-n-ge64 c = search (lowest-laws, rules)
