use mathlib.Core.Path.{◌≡◌}
use Rattle.capture_print.specs.Outputs.{totals_line}
use Rattle.capture_print.proofs.PrintLaws.{totals-made}
use Rattle.capture_print.proofs.put_totals.Goals as goal

pub returns : goal.returns
returns c =
    let line : c.add-3.new.self ≡ totals_line c.args.lines c.args.refused = totals-made _ c.new-line.ensures _ _ _ _ _ _ _ c.add.ensures c.add_number.ensures.line c.add-2.ensures c.add_number-2.ensures.line c.add-3.ensures in
    record { answer = cc; output = cc }
