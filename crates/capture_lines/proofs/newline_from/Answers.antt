use mathlib.Core.Path.{◌∙◌}
use Rattle.capture_lines.proofs.NewlineLaws.{line-end}
use Rattle.capture_lines.proofs.newline_from.Goals as goal

pub returns : goal.returns
returns c =
    let e = c.line_end.ensures in
    let s = c.skipped_from.ensures in
    line-end c.args.bytes.now c.skipped_from.result c.line_end.result e.within (e.behind s.within) e.before e.newline ∙ s.newline
