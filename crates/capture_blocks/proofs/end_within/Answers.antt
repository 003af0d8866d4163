use Rattle.capture_print.proofs.PrintLaws.{code-11, code-13}
use Rattle.capture_blocks.proofs.CallReturns.{end-silent, end-silent-output, end-number, end-number-output, first-end, complete-end, unended-end, no-end}
use Rattle.capture_blocks.proofs.end_within.Goals as goal

pub returns-in-First : goal.returns-in-First
returns-in-First c =
    let z = first-end c.args.progress c.args.rest.now c.args.out.now c.in-First.is in
    let n = c.print_refusal.ensures in
    record { answer = end-number _ _ c.args.out.now c.requires 11 code-11 0 z _ n.answer; output = end-number-output _ c.args.rest.now _ c.requires 11 code-11 0 z _ n.output }

pub returns-then-is_empty : goal.returns-then-is_empty
returns-then-is_empty c =
    let z = complete-end c.args.progress c.args.rest.now c.args.out.now _ c.in-Lines.is c.is_empty.result c.is_empty.ensures c.if-is_empty.true in
    record { answer = end-silent _ c.args.rest.now c.args.out.now z _ c.silent.ensures; output = end-silent-output _ c.args.rest.now c.args.out.now z }

pub returns-else-is_empty : goal.returns-else-is_empty
returns-else-is_empty c =
    let z = unended-end c.args.progress c.args.rest.now c.args.out.now _ c.in-Lines.is c.is_empty.result c.is_empty.ensures c.if-is_empty.false in
    let n = c.print_refusal-else-is_empty.ensures in
    record { answer = end-number _ _ c.args.out.now c.requires 13 code-13 1 z _ n.answer; output = end-number-output _ c.args.rest.now _ c.requires 13 code-13 1 z _ n.output }

pub returns-in-Skipping : goal.returns-in-Skipping
returns-in-Skipping c =
    let z = no-end c.args.progress c.args.rest.now c.args.out.now c.in-Skipping.is in
    record { answer = end-silent _ c.args.rest.now c.args.out.now z _ c.silent-in-Skipping.ensures; output = end-silent-output _ c.args.rest.now c.args.out.now z }
