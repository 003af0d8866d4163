-- Reading a packet into a record: as the reader, and last 12 where the record is too short. All to be believed.
use Rattle.std.specs.Prelude.{ℕ, List, ltb, length, Result, Ok, Err}
use Rattle.bits.specs.Choice.{pick}
use Rattle.bits.specs.Put.{over_front}
use Rattle.tlp.specs.Refusals.{number_in}
use Rattle.tlp.specs.declared.packet.Packet.{Packet}
use Rattle.tlp.specs.declared.refusal.Refusal.{Refusal}
use Rattle.tlp.specs.declared.refusal.Refusal.TheVariants.{OutputTooShort}
use Rattle.tlp_record.specs.Places.{record_size}
use Rattle.tlp_record.specs.Record.{record_of}

-- what is answered to what reading answers and a record of room bytes
abbrev pub read_answer : Result Packet Refusal → ℕ → Result Unit Refusal
read_answer (Ok p) room = pick (ltb room record_size) (Err OutputTooShort) (Ok tt)
read_answer (Err r) room = Err r

-- its number, 0 for accepted
abbrev pub read_number : Result Packet Refusal → ℕ → ℕ
read_number answer room = number_in (read_answer answer room)

-- the record afterwards: that of the packet over its front, or as it was
abbrev pub read_record : Result Packet Refusal → List ℕ → List ℕ
read_record (Ok p) out = pick (ltb (length out) record_size) out (over_front (record_of p) out)
read_record (Err r) out = out
