use Rattle.text.proofs.BufferLaws.{moved}
use Rattle.text.proofs.buffer.move_to_front.Goals as goal

pub returns : goal.returns
returns c = moved c.args.from c.args.to c.min-end.result c.min.result c.args.buf.now _ c.min-end.ensures c.min.ensures c.copy_within.ensures.after
