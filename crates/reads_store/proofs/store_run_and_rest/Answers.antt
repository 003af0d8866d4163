use borrow.Author.Rules.{rules}
use native.Mathlib.Nat.{le_refl}
use Rattle.reads_store.proofs.Returns.{stored-laws}
use Rattle.reads_store.proofs.store_run_and_rest.Goals as goal

pub returns : goal.returns
returns c = search (stored-laws, le_refl, rules)
