use native.Mathlib.Omega.{arith}
use Rattle.tlp_write.proofs.LayoutLaws.{first-le}
use Rattle.tlp_write.proofs.WordLaws.{front-law}
use Rattle.tlp_write.proofs.head.front_word.Goals as goal

pub overflow_add-b0 : goal.overflow_add-b0
overflow_add-b0 c = omega (arith, first-le c.args.h.packet_type)

pub returns : goal.returns
returns c = search front-law
