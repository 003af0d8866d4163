use native.Mathlib.Omega.{arith}
use Rattle.reads_store.proofs.EnabledRuns.{run-enabled}
use borrow.Author.Rules.{rules}
use Rattle.reads_store.proofs.enabled_run.Goals as goal

pub returns-else-k-enabled_from : goal.returns-else-k-enabled_from
returns-else-k-enabled_from c = (omega arith, search (run-enabled, rules))
