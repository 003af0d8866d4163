use Rattle.text.proofs.HexLaws.{text-laws}
use Rattle.std.proofs.Common.{arith, length-set, rules}
use Rattle.text.proofs.hex.lay_hex.Goals as goal

pub loop-b-preserved : goal.loop-b-preserved
loop-b-preserved c = (search rules, (simp length-set (omega arith), search text-laws))

pub returns-clause-out_after : goal.returns-clause-out_after
returns-clause-out_after c = search text-laws
