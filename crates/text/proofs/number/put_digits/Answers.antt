use Rattle.text.proofs.PutLaws.{laid-laws, room-holds}
use Rattle.text.proofs.NumberLaws.{length_digits}
use Rattle.std.proofs.Common.{rules}
use Rattle.text.proofs.number.put_digits.Goals as goal

pub returns-then-not-room : goal.returns-then-not-room
returns-then-not-room c = record { value = search (laid-laws, length_digits); out_after = search (laid-laws, length_digits) }

pub lay_digits-requires : goal.lay_digits-requires
lay_digits-requires c = (search rules, (search rules, search room-holds))

pub returns : goal.returns
returns c = record { value = search (laid-laws, length_digits); out_after = rw (← c.value.ensures.value) (search (laid-laws, length_digits)) }
