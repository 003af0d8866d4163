use mathlib.Core.Path.{◌≡◌}
use Rattle.capture_print.specs.Outputs.{code_line}
use Rattle.capture_print.proofs.PrintLaws.{code-made}
use Rattle.capture_print.proofs.put_code.Goals as goal

pub returns : goal.returns
returns c =
    let line : c.add-2.new.self ≡ code_line c.args.number = code-made _ c.new-line.ensures _ _ _ _ c.add.ensures c.add_number.ensures.line c.add-2.ensures in
    record { answer = cc; output = cc }
