use Prim.Native.Nat.{◌-◌, ◌≤◌}
use mathlib.Core.Path.{◌≡◌, ap, ◌∙◌}
use Rattle.std.specs.Prelude.{Some}
use lib.ListN.{length}
use native.Mathlib.Omega.{arith}
use Rattle.decode.specs.Inner.Sizes.{lines_most}
use Rattle.decode.proofs.TurnLaws.{read-laws, gave-laid}
use Rattle.decode.proofs.turn.lay_read.Goals as goal

pub returns-in-None : goal.returns-in-None
returns-in-None c = record { stage = search read-laws; text = search read-laws; counted = search read-laws }

pub returns-then-n-eq0 : goal.returns-then-n-eq0
returns-then-n-eq0 c =
    let none : c.args.answered ≡ Some 0 = c.in-Some.is ∙ ap Some c.if-n-eq0.true in
    record { stage = search read-laws; text = search read-laws; counted = search read-laws }

pub returns-else-n-eq0 : goal.returns-else-n-eq0
returns-else-n-eq0 c =
    let pre = c.requires.ready in
    let laid = c.lay_step in
    let moved : c.in-Some.n ≤ length c.args.buf.now - c.args.run.kept = rw c.in-Some.is at c.requires.moved in
    let gave =
    gave-laid c.args.run c.args.buf.now c.in-Some.n moved c.if-n-eq0.false lines_most laid.result.run laid.new.buf _ pre.counted (omega (arith, pre.counted.kept)) pre.input
    laid.ensures.run laid.ensures.kept laid.ensures.text in
    record { stage = rw c.in-Some.is gave.0; text = rw c.in-Some.is gave.1.0; counted = gave.1.1 }
