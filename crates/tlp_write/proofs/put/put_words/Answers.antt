use Rattle.tlp_write.proofs.WordLaws.{wide-end, narrow-end, wide-put, narrow-put, first-room, second-wide, second-narrow}
use Rattle.tlp_write.proofs.put.put_words.Goals as goal

pub put_at-requires : goal.put_at-requires
put_at-requires c = search first-room

pub put_at-requires-then-wide : goal.put_at-requires-then-wide
put_at-requires-then-wide c = search second-wide

pub returns-then-wide : goal.returns-then-wide
returns-then-wide c = (search wide-end, search wide-put)

pub put_at-requires-else-wide : goal.put_at-requires-else-wide
put_at-requires-else-wide c = search second-narrow

pub returns-else-wide : goal.returns-else-wide
returns-else-wide c = (search narrow-end, search narrow-put)
