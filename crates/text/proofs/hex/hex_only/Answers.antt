use Rattle.text.proofs.DigitLaws.{scan-laws}
use Rattle.text.proofs.hex.hex_only.Goals as goal

pub loop-b-preserved : goal.loop-b-preserved
loop-b-preserved c = search scan-laws

pub returns : goal.returns
returns c = search scan-laws
