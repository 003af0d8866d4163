use Rattle.capture_blocks.proofs.StepReturns.{step-lines-laws}
use Rattle.capture_blocks.proofs.step_lines.Goals as goal

pub returns-then-bytes-step-le-TEXT_MOST : goal.returns-then-bytes-step-le-TEXT_MOST
returns-then-bytes-step-le-TEXT_MOST c = record { answer = search step-lines-laws depth 12 fits 4000; output = search step-lines-laws depth 12 fits 4000 }

pub returns : goal.returns
returns c = record { answer = search step-lines-laws depth 12 fits 4000; output = search step-lines-laws depth 12 fits 4000 }
