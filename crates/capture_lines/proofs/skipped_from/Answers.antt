use mathlib.Core.Path.{◌≡◌, ◌∙◌}
use lib.ListN.{length}
use borrow.Author.Rules.{rules}
use Rattle.capture_lines.proofs.NewlineLaws.{chunk-laws}
use Rattle.capture_lines.proofs.skipped_from.Goals as goal

pub loop-chunk-preserved : goal.loop-chunk-preserved
loop-chunk-preserved c =
    let v = c.loop-chunk.invariant in
    let s = c.in-Some.ensures.steps in
    let k : length c.in-Some.chunk.now ≡ 32 = s.1.1 ∙ v.size in
    record { within = search chunk-laws; size = search rules; rest = search chunk-laws; newline = search chunk-laws }
