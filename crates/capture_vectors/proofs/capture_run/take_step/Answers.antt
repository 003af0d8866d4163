use Rattle.capture_vectors.proofs.Laws.{step-laws}
use Rattle.capture_vectors.proofs.capture_run.take_step.Goals as goal

pub advanced-requires : goal.advanced-requires
advanced-requires c = record {
  used = search step-laws depth 12 fits 4000;
  lines = search step-laws depth 12 fits 4000;
  refused = search step-laws depth 12 fits 4000;
}

pub returns-in-Ok : goal.returns-in-Ok
returns-in-Ok c = search step-laws depth 12 fits 4000
