use Rattle.text.proofs.HexLaws.{pair-laws}
use Rattle.std.proofs.Common.{arith, length-set, rules}
use Rattle.text.proofs.hex.lay_bytes.Goals as goal

pub loop-i-init : goal.loop-i-init
loop-i-init c = (search rules, (search rules, search pair-laws))

pub overflow_mul-out : goal.overflow_mul-out
overflow_mul-out c = search pair-laws

pub overflow_add-out : goal.overflow_add-out
overflow_add-out c = search pair-laws

pub loop-i-preserved : goal.loop-i-preserved
loop-i-preserved c = (simp length-set (omega arith), (search pair-laws, search pair-laws))

pub returns : goal.returns
returns c = search pair-laws
