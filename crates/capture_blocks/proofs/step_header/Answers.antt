use Rattle.capture_blocks.proofs.StepReturns.{step-header-laws}
use Rattle.capture_blocks.proofs.step_header.Goals as goal

pub returns-in-None : goal.returns-in-None
returns-in-None c = record { answer = search step-header-laws depth 12 fits 4000; output = search step-header-laws depth 12 fits 4000 }

pub returns-in-Some : goal.returns-in-Some
returns-in-Some c = record { answer = search step-header-laws depth 12 fits 4000; output = search step-header-laws depth 12 fits 4000 }
