use Rattle.std.proofs.Common.{◌∙◌, lt-ltb}
use Rattle.text.proofs.NumberLaws.{plain-short, plain-first}
use Rattle.text.proofs.number.is_plain.Goals as goal

pub returns-then-text-lt2 : goal.returns-then-text-lt2
returns-then-text-lt2 c = lt-ltb _ _ c.if-text-lt2.true ∙ plain-short _ c.if-text-lt2.true

pub returns-else-text-lt2 : goal.returns-else-text-lt2
returns-else-text-lt2 c = search plain-first
