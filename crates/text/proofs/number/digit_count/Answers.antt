use Rattle.text.proofs.NumberLaws.{count-laws}
use Rattle.text.proofs.number.digit_count.Goals as goal

pub loop-m-smaller : goal.loop-m-smaller
loop-m-smaller c = search count-laws

pub loop-m-preserved : goal.loop-m-preserved
loop-m-preserved c = search count-laws

pub returns : goal.returns
returns c = search count-laws
