use Rattle.tlp_write.proofs.WriteLaws.{told-answer, told-out}
use Rattle.tlp_write.proofs.write_head.Goals as goal

pub returns : goal.returns
returns c = record { value = search told-answer; out_after = search told-out }
