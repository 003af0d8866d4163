use Rattle.reads_store.proofs.Returns.{stored-laws}
use Rattle.reads_store.proofs.store_enabled.Goals as goal

pub returns-then-all_enabled : goal.returns-then-all_enabled
returns-then-all_enabled c = rw (← c.from-k.ensures) (search stored-laws)
