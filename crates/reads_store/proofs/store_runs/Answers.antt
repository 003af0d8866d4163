use mathlib.Core.Path.{sym}
use native.Mathlib.Omega.{arith}
use lib.ListN.{length-take}
use lib.Seq.{length-take-le}
use Rattle.reads_store.proofs.Returns.{stored-laws}
use borrow.Author.Rules.{rules}
use Rattle.reads_store.proofs.store_runs.Goals as goal

pub slice_bounds-store_tested-end : goal.slice_bounds-store_tested-end
slice_bounds-store_tested-end c = sym (length-take-le _ _ (omega arith))

pub slice_bounds-store_tested-end-3 : goal.slice_bounds-store_tested-end-3
slice_bounds-store_tested-end-3 c = sym (length-take-le _ _ (omega arith))

pub store_tested-requires : goal.store_tested-requires
store_tested-requires c = simp length-take (omega arith)

pub returns : goal.returns
returns c = search (stored-laws, rules)
