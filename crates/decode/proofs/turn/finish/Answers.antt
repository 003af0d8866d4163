use Rattle.decode.proofs.TurnLaws.{prints-end}
use Rattle.decode.proofs.turn.finish.Goals as goal

pub print-requires : goal.print-requires
print-requires g c = prints-end c.args.run c.args.buf.now _ _ _ c.part.ensures c.requires.reached c.lay_end-laid.ensures.run c.lay_end-laid.ensures.text
