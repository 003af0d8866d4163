use Rattle.tlp_write.proofs.WriteLaws.{words-room, front-room, front-end, front-put}
use Rattle.tlp_write.proofs.put_front.Goals as goal

pub put_words-n-requires : goal.put_words-n-requires
put_words-n-requires c = search words-room

pub put_at-requires : goal.put_at-requires
put_at-requires c = search front-room

pub returns : goal.returns
returns c = (search front-end, search front-put)
