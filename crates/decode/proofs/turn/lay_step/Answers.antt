use Rattle.decode.proofs.StepLaws.{step-laws}
use borrow.Author.Rules.{rules}
use Rattle.decode.proofs.turn.lay_step.Goals as goal

pub overflow_sub-n : goal.overflow_sub-n
overflow_sub-n c = search step-laws depth 12 fits 4000

pub advanced-requires : goal.advanced-requires
advanced-requires c = record { lines_so_far = search rules; lines_of_the_step = search step-laws depth 12 fits 4000; refused_so_far = search rules; refused_of_the_step = search step-laws depth 12 fits 4000 }

pub returns-in-Err : goal.returns-in-Err
returns-in-Err c = absurd (search step-laws depth 12 fits 4000)

pub returns-in-Ok : goal.returns-in-Ok
returns-in-Ok c =
    let pre = c.requires in
    record { run = search step-laws depth 12 fits 4000; kept = search step-laws depth 12 fits 4000; text = search step-laws depth 12 fits 4000 }
