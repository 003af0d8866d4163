use borrow.Author.Rules.{rules}
use Rattle.capture_blocks.proofs.LinesLaws.{loop-laws}
use Rattle.capture_blocks.proofs.lines.decode_lines.Goals as goal

pub loop-line-preserved : goal.loop-line-preserved
loop-line-preserved c = search loop-laws depth 12 fits 4000

pub returns : goal.returns
returns c = record { answer = search loop-laws depth 12 fits 4000; output = search loop-laws depth 12 fits 4000; room = search loop-laws depth 12 fits 4000; counts = search rules }
