use Rattle.text.proofs.PutLaws.{laid-laws, room-holds}
use Rattle.text.proofs.HexLaws.{length-text}
use Rattle.text.proofs.hex.put_hex.Goals as goal

pub returns-then-not-room : goal.returns-then-not-room
returns-then-not-room c = record { value = search (laid-laws, length-text); out_after = search (laid-laws, length-text) }

pub lay_hex-requires : goal.lay_hex-requires
lay_hex-requires c = search room-holds

pub returns : goal.returns
returns c = record { value = search (laid-laws, length-text); out_after = search (laid-laws, length-text) }
