use Rattle.std.proofs.Common.{arith}
use Rattle.tlp_record_write.proofs.Writable.{kind-unknown}
use Rattle.tlp_record_write.proofs.kind_head.kind_head_in.Goals as goal

pub returns-in_default : goal.returns-in_default
returns-in_default c = kind-unknown _ (λ h. omega (arith, h.0, h.1, c.in_default))

pub returns-in_default-2 : goal.returns-in_default-2
returns-in_default-2 c = kind-unknown _ (λ h. omega (arith, h.0, h.1, c.in_default))
