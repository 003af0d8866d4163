use Rattle.text.proofs.NumberLaws.{lay-laws}
use Rattle.std.proofs.Common.{arith, length-set, rules}
use Rattle.text.proofs.number.lay_digits.Goals as goal

pub loop-i-init : goal.loop-i-init
loop-i-init c = (search rules, (search rules, (search rules, search lay-laws)))

pub loop-i-preserved : goal.loop-i-preserved
loop-i-preserved c = (search rules, (search rules, (simp length-set (omega arith), search lay-laws)))

pub returns : goal.returns
returns c = record { value = search rules; out_after = search lay-laws }
