use mathlib.Core.Path.{◌∙◌}
use Rattle.reads.proofs.TakeLaws.{take-laws, take_left, more-fits-in}
use Rattle.reads.proofs.take.take_lent.Goals as goal

pub returns-then-not-takes : goal.returns-then-not-takes
returns-then-not-takes c = record { result_after = search (take-laws, c.from-tag.ensures ∙ c.byte_at.ensures); store_after = search (take_left, c.from-tag.ensures ∙ c.byte_at.ensures) }

pub record_given-x-requires : goal.record_given-x-requires
record_given-x-requires c = λ h. search more-fits-in

pub returns : goal.returns
returns c = record { result_after = search (take-laws, c.from-tag.ensures ∙ c.byte_at.ensures); store_after = search (take_left, c.from-tag.ensures ∙ c.byte_at.ensures) }
