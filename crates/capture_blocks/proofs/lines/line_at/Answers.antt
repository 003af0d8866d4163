use Rattle.capture_blocks.proofs.LineAtLaws.{line-at-laws, ended-least, over-long-forward, ended-forward}
use borrow.Author.Rules.{rules}
use Rattle.capture_blocks.proofs.lines.line_at.Goals as goal

pub overflow_sub-end : goal.overflow_sub-end
overflow_sub-end c = search (ended-least, rules) depth 12 fits 4000

pub returns-in-Unended : goal.returns-in-Unended
returns-in-Unended c = record { answer = search line-at-laws depth 12 fits 4000; output = search line-at-laws depth 12 fits 4000; forward = tt }

pub returns-in-OverLong : goal.returns-in-OverLong
returns-in-OverLong c =
    let forward = over-long-forward c.args.bytes.now c.args.place c.requires.place c.next_line.result c.next_line.ensures _ c.print_line.result _ _ _ c.print_line.ensures.answer c.in-OverLong.is in
    record { answer = search line-at-laws depth 12 fits 4000; output = search line-at-laws depth 12 fits 4000; forward = forward }

pub returns-in-Ended : goal.returns-in-Ended
returns-in-Ended c =
    let forward = ended-forward c.args.bytes.now c.args.place c.requires.place c.next_line.result c.next_line.ensures _ c.print_line-in-Ended.result _ _ _ c.print_line-in-Ended.ensures.answer c.in-Ended.is in
    record { answer = search line-at-laws depth 12 fits 4000; output = search line-at-laws depth 12 fits 4000; forward = forward }
