use Rattle.capture_lines.proofs.NewlineLaws.{found-laws}
use Rattle.capture_lines.proofs.has_newline.Goals as goal

pub loop-b-preserved : goal.loop-b-preserved
loop-b-preserved c = search found-laws

pub returns : goal.returns
returns c = search found-laws
