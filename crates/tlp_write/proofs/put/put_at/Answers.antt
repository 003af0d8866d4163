use Rattle.std.proofs.Common.{refl}
use Rattle.bits.proofs.PutLaws.{copied_part}
use Rattle.tlp_write.proofs.put.put_at.Goals as goal

pub returns : goal.returns
returns c = (refl, copied_part _ _ _ _ _ refl c.copy_from_slice.ensures.after)
