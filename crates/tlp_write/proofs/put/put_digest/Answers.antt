use Rattle.tlp_write.proofs.PutLaws.{digest-room, digest-put, digest-none}
use Rattle.tlp_write.proofs.put.put_digest.Goals as goal

pub put_at-requires : goal.put_at-requires
put_at-requires c = search digest-room

pub returns-then-has_digest : goal.returns-then-has_digest
returns-then-has_digest c = search digest-put

pub returns-else-has_digest : goal.returns-else-has_digest
returns-else-has_digest c = search digest-none
