use Rattle.capture_blocks.proofs.CallReturns.{end-answers}
use Rattle.capture_blocks.proofs.decode_end.Goals as goal

pub returns-then-out-lt-PRINTED_EACH : goal.returns-then-out-lt-PRINTED_EACH
returns-then-out-lt-PRINTED_EACH c = record { answer = search end-answers depth 12 fits 4000; output = search end-answers depth 12 fits 4000 }

pub returns : goal.returns
returns c = record { answer = search end-answers depth 12 fits 4000; output = search end-answers depth 12 fits 4000 }
