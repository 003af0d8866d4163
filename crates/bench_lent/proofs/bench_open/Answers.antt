use Rattle.bench_lent.proofs.Thin.{thin_laws}
use Rattle.bench_lent.proofs.bench_open.Goals as goal

pub returns-clause-value : goal.returns-clause-value
returns-clause-value c = search thin_laws

pub returns-clause-words_after : goal.returns-clause-words_after
returns-clause-words_after c = search thin_laws

pub returns-clause-out_after : goal.returns-clause-out_after
returns-clause-out_after c = search thin_laws
