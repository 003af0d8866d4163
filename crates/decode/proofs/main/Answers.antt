use native.Mathlib.Omega.{arith}
use Prim.Native.Nat.{ℕ}
use mathlib.Core.Path.{◌≡◌, ap, sym}
use mathlib.Core.Bool.{true}
use lib.ListN.{length-replicate}
use borrow.Author.Rules.{rules}
use borrow.Author.Tests.{not-false}
use Rattle.decode.specs.Turns.{first_run}
use Rattle.decode.specs.Inner.Sizes.{lines_most}
use Rattle.decode.specs.declared.run.Run.{Run}
use Rattle.decode.proofs.TurnLaws.{none-counted, first-reached, prints-turn, turn-reached, turn-counted}
use Rattle.decode.proofs.main.Goals as goal
use Rattle.decode.proofs.main.Goals.{else-loop-turn-test, then-loop-turn-test+then-not-run}

pub loop-turn-init : goal.loop-turn-init
loop-turn-init c =
    let first = c.first_run-run in
    let lines : first.result.lines ≡ 0 = ap (λ (r : Run). r.lines) first.ensures in
    record {
      input = sym c.large_buffer-buf.ensures;
      output = length-replicate {A = ℕ} 524288 0;
      lines = omega (arith, lines);
      counted = none-counted lines_most first_run.progress true first.result first.ensures;
      more = ap (λ (r : Run). r.more) first.ensures;
      reached = first-reached first.result _ first.ensures;
    }

pub print-run-requires : goal.print-run-requires
print-run-requires c =
    let loop = c.loop-turn in
    let read = c.read_block-answered in
    let lay = c.lay_read-laid in
    prints-turn loop.run loop.buf read.new.buf lay.new.buf read.result lay.result.run loop.invariant.reached loop.invariant.more read.ensures.front lay.ensures.stage _ lay.ensures.text

pub loop-turn-preserved : goal.loop-turn-preserved
loop-turn-preserved c =
    let loop = c.loop-turn in
    let read = c.read_block-answered in
    let lay = c.lay_read-laid in
    let print = c.print-run in
    let within = turn-counted _ lay.result.run print.result lay.ensures.counted print.ensures in
    let test = c.loop-turn-test.true in
    record {
      input = search rules;
      output = search rules;
      lines = omega arith;
      counted = record { kept = within.kept; lines = omega arith; refused = within.refused };
      more = not-false print.result.more c.if-not-run.false;
      reached = turn-reached loop.run loop.buf read.new.buf lay.new.buf read.result lay.result.run loop.invariant.reached loop.invariant.more read.ensures.front lay.ensures.stage print.result print.ensures;
    }

pub finish-requires-clause-reached : goal.finish-requires-clause-reached
finish-requires-clause-reached c =
    elim c.loop-turn-test.branch [
      | else-loop-turn-test w ↦ rw (w.run-is, w.buf-is) c.loop-turn.invariant.reached
      | then-loop-turn-test+then-not-run w ↦
          let loop = c.loop-turn in
          let read = w.read_block-answered in
          let lay = w.lay_read-laid in
          rw (w.run-is, w.buf-is)
          (turn-reached loop.run loop.buf read.new.buf lay.new.buf read.result lay.result.run loop.invariant.reached loop.invariant.more read.ensures.front lay.ensures.stage w.print-run.result w.print-run.ensures)
    ]
