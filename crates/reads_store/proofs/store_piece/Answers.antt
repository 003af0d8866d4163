use Rattle.reads_store.proofs.Returns.{stored-laws}
use borrow.Author.Rules.{rules}
use Rattle.reads_store.proofs.store_piece.Goals as goal

pub returns-then-room-q : goal.returns-then-room-q
returns-then-room-q c = rw (← c.from-skipped.ensures) (search (stored-laws, rules))

pub returns : goal.returns
returns c = rw (← c.from-skipped.ensures) (search (stored-laws, rules))
