use Rattle.reads_words.proofs.Returns.{set-laws}
use borrow.Author.Rules.{rules}
use Rattle.reads_words.proofs.tag_set.with_bit.Goals as goal

pub overflow_add-result : goal.overflow_add-result
overflow_add-result c = search (set-laws, rules)

pub returns-then-has_bit : goal.returns-then-has_bit
returns-then-has_bit c = search (set-laws, rules)

pub returns-else-has_bit : goal.returns-else-has_bit
returns-else-has_bit c = search (set-laws, rules)
