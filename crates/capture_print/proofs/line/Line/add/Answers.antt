use Rattle.capture_print.proofs.PrintLaws.{added-size, added-line}
use Rattle.capture_print.proofs.line.Line.add.Goals as goal

pub invariant_of-self : goal.invariant_of-self
invariant_of-self c =
    let s = c.self in
    let e = c.put_text-self-inside.ensures in
    added-size s.inside.size s.inside.bytes c.args.text.now c.args.self.now s.told s.invariant s.view_is c.requires _ e.value _ e.out_after

pub returns : goal.returns
returns c =
    let s = c.self in
    let e = c.put_text-self-inside.ensures in
    added-line s.inside.size s.inside.bytes c.args.text.now c.args.self.now s.told s.invariant s.view_is c.requires _ e.value _ e.out_after
