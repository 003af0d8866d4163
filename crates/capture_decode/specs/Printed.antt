-- How much of a packet decides what is printed, and how much a line prints at most; that these are enough is proved in
-- proofs/PacketReadLaws and proofs/RoomLaws. A reader must believe printed_each: the room that decode_block asks for.
use Rattle.std.specs.Prelude.{ℕ}

-- no more of a packet's bytes decide what is printed
abbrev pub printed_front : ℕ
printed_front = 16

-- a line prints at most so many bytes for each of its bytes, the newline among them
abbrev pub printed_each : ℕ
printed_each = 8
