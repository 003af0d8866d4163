use Rattle.text.specs.Decimal.{decimal_text}
use Rattle.capture_print.proofs.PrintLaws.{added-size, added-line, number_fits, number-size}
use Rattle.capture_print.proofs.line.Line.add_number.Goals as goal

pub invariant_of-self : goal.invariant_of-self
invariant_of-self c =
    let s = c.self in
    let e = c.put_decimal-self-inside.ensures in
    added-size s.inside.size s.inside.bytes (decimal_text c.args.n) c.args.self.now s.told s.invariant s.view_is (number_fits c.args.self.now c.args.n c.requires) _ e.value _ e.out_after

pub returns : goal.returns
returns c =
    let s = c.self in
    let e = c.put_decimal-self-inside.ensures in
    let line = added-line s.inside.size s.inside.bytes (decimal_text c.args.n) c.args.self.now s.told s.invariant s.view_is (number_fits c.args.self.now c.args.n c.requires) _ e.value _ e.out_after in
    record { line = line; size = rw line (number-size c.args.self.now c.args.n) }
