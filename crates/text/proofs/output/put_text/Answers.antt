use Rattle.std.proofs.Common.{refl, rules}
use Rattle.bits.proofs.PutLaws.{copied_part}
use Rattle.text.proofs.PutLaws.{laid-laws, laid-whole}
use Rattle.text.proofs.output.put_text.Goals as goal

pub returns-then-not-room : goal.returns-then-not-room
returns-then-not-room c = record { value = search laid-laws; out_after = search laid-laws }

pub returns : goal.returns
returns c = record { value = search laid-laws; out_after = laid-whole _ _ _ _ (search rules) _ c.room.ensures _ (search rules) (copied_part c.args.at _ c.args.text.now c.args.out.now _ refl c.copy_from_slice.ensures.after) }
