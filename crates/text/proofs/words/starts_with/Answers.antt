use Rattle.text.proofs.WordLaws.{starts-past, starts-here}
use Rattle.text.proofs.words.starts_with.Goals as goal

pub returns-then-at-line-clause-value : goal.returns-then-at-line-clause-value
returns-then-at-line-clause-value c = starts-here _ _ _ _ c.if-at-line.true c.starts_with.ensures.value

pub returns-else-at-line-clause-value : goal.returns-else-at-line-clause-value
returns-else-at-line-clause-value c = starts-past _ _ _ c.if-at-line.false
