use Rattle.decode.proofs.TurnLaws.{filled-front, block-moved}
use Rattle.decode.proofs.turn.read_block.Goals as goal

pub returns-in-Ok : goal.returns-in-Ok
returns-in-Ok g c = record {
  answer = block-moved c.args.buf.now c.read.new.buf c.args.kept c.in-Ok.n c.read.auto.buf c.in-Ok.ensures.bound.0;
  front = filled-front c.args.buf.now c.read.new.buf c.args.kept c.requires.kept_in_bounds c.read.auto.buf;
}

pub returns-in-Err : goal.returns-in-Err
returns-in-Err g c = record {
  answer = tt;
  front = filled-front c.args.buf.now c.read.new.buf c.args.kept c.requires.kept_in_bounds c.read.auto.buf;
}
