use Rattle.text.proofs.NumberLaws.{number-laws}
use Rattle.std.proofs.Common.{rules}
use Rattle.text.proofs.number.number_in.Goals as goal
use Rattle.text.proofs.number.number_in.Goals.{then-base-d-via-then-base-d, then-base-d-via-else-base-d+then-exceeds}

pub returns-then-is_empty : goal.returns-then-is_empty
returns-then-is_empty c = search number-laws

pub loop-b-init : goal.loop-b-init
loop-b-init c = (search rules, search number-laws)

pub returns-then-base-d : goal.returns-then-base-d
returns-then-base-d c =
    elim c.then-base-d.branch [
      | then-base-d-via-then-base-d w ↦ rw (← c.value-base.ensures.value) (search number-laws)
      | then-base-d-via-else-base-d+then-exceeds w ↦ rw (← c.value-base.ensures.value) (search number-laws)
    ]

pub loop-b-preserved : goal.loop-b-preserved
loop-b-preserved c = (search number-laws, search number-laws)

pub returns : goal.returns
returns c = rw (← c.value-base.ensures.value) (search number-laws)
