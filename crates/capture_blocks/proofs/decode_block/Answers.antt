use Rattle.capture_blocks.proofs.CallReturns.{step-answers}
use Rattle.capture_blocks.proofs.decode_block.Goals as goal

pub returns-then-out-bytes : goal.returns-then-out-bytes
returns-then-out-bytes c = record { answer = search step-answers depth 12 fits 4000; output = search step-answers depth 12 fits 4000 }

pub returns : goal.returns
returns c = record { answer = search step-answers depth 12 fits 4000; output = search step-answers depth 12 fits 4000 }
