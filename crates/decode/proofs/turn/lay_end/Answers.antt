use Rattle.decode.proofs.StepLaws.{end-laws}
use borrow.Author.Rules.{rules}
use Rattle.decode.proofs.turn.lay_end.Goals as goal

pub advanced-last-requires : goal.advanced-last-requires
advanced-last-requires c = record { lines_so_far = search rules; lines_of_the_step = search end-laws depth 12 fits 4000; refused_so_far = search rules; refused_of_the_step = search end-laws depth 12 fits 4000 }

pub returns-in-Err : goal.returns-in-Err
returns-in-Err c = absurd (search end-laws depth 12 fits 4000)

pub returns-in-Ok : goal.returns-in-Ok
returns-in-Ok c = record { run = search rules; text = search end-laws depth 12 fits 4000 }
