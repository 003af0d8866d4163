use Rattle.reads_words.proofs.Returns.{lowest-laws}
use borrow.Author.Rules.{rules}
use Rattle.reads_words.proofs.tag_set.without_lowest.Goals as goal

pub overflow_shl-result : goal.overflow_shl-result
overflow_shl-result c = search (lowest-laws, rules)

pub overflow_sub-result : goal.overflow_sub-result
overflow_sub-result c = search (lowest-laws, rules)

pub returns-then-w-eq0 : goal.returns-then-w-eq0
returns-then-w-eq0 c = search (lowest-laws, rules)

pub returns-else-w-eq0 : goal.returns-else-w-eq0
returns-else-w-eq0 c = search (lowest-laws, rules)
