use Rattle.std.proofs.Common.{rules}
use Rattle.bench_lent.proofs.Thin.{thin_laws}
use Rattle.bench_lent.proofs.origin_in.Goals as goal

pub returns : goal.returns
returns c = search (thin_laws, rules)
