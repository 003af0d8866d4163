use borrow.Author.Rules.{rules}
use Rattle.capture_blocks.proofs.StepReturns.{step-skipping-laws, complete-inside}
use Rattle.capture_blocks.proofs.step_skipping.Goals as goal

pub step_lines-requires : goal.step_lines-requires
step_lines-requires c = record { from = search complete-inside; room = search rules }

pub returns-in-OverLong : goal.returns-in-OverLong
returns-in-OverLong c = record { answer = search step-skipping-laws depth 12 fits 4000; output = search step-skipping-laws depth 12 fits 4000 }

pub returns-in-Unended : goal.returns-in-Unended
returns-in-Unended c = record { answer = search step-skipping-laws depth 12 fits 4000; output = search step-skipping-laws depth 12 fits 4000 }
