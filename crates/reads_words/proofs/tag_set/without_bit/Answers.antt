use Rattle.reads_words.proofs.Returns.{set-laws}
use borrow.Author.Rules.{rules}
use Rattle.reads_words.proofs.tag_set.without_bit.Goals as goal

pub overflow_sub-result : goal.overflow_sub-result
overflow_sub-result c = search (set-laws, rules)

pub returns-then-has_bit : goal.returns-then-has_bit
returns-then-has_bit c = search (set-laws, rules)

pub returns-else-has_bit : goal.returns-else-has_bit
returns-else-has_bit c = search (set-laws, rules)
