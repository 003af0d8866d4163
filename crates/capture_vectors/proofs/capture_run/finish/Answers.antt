use Rattle.capture_vectors.proofs.Laws.{end-laws}
use Rattle.capture_vectors.proofs.capture_run.finish.Goals as goal

pub overflow_add-run : goal.overflow_add-run
overflow_add-run c = record { fits = search end-laws depth 12 fits 4000 }

pub overflow_add-run-in-Ok : goal.overflow_add-run-in-Ok
overflow_add-run-in-Ok c = record { fits = search end-laws depth 12 fits 4000 }
