use Rattle.tlp_write.proofs.WriteLaws.{lay-answer, lay-out}
use Rattle.tlp_write.proofs.lay_packet.Goals as goal

pub returns : goal.returns
returns c = record { value = search lay-answer; out_after = search lay-out }
