use Rattle.std.proofs.Common.{rules}
use Rattle.bits.proofs.PutLaws.{copied_part}
use Rattle.tlp_record_read.proofs.lay.lay.Goals as goal

pub returns : goal.returns
returns c = copied_part c.args.at 8 c.args.part c.args.record.now _ (search rules) c.copy_from_slice.ensures.after
