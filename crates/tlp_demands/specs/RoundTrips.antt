-- Demand 2's two trips, and document 01's sentence on reserved bits, over the output that a caller holds. A reader must
-- believe the four statements; they are proved in proofs/RoundTrips.antt and proofs/ReservedIgnored.antt.
use Rattle.std.specs.Prelude.{ℕ, ◌≤◌, ◌≡◌, List, length, take, Ok}
use Rattle.bits.specs.Put.{over_front}
use Rattle.bits.specs.Word.{Bytes}
use Rattle.tlp.specs.Reserved.{clear_reserved}
use Rattle.tlp.specs.declared.settings.Settings.{Settings}
use Rattle.tlp.specs.declared.packet.Packet.{Packet}
use Rattle.tlp_read.specs.Read.{read_packet, payload_of}
use Rattle.tlp_write.specs.Write.{write_packet, write_out}

-- "Writing then reading gives the same packet": where writing into an output is accepted, reading as many of its bytes
-- as were written, with the same settings, gives the same packet, and its payload is the one that was lent.
abbrev pub WriteThenRead : Type 0
WriteThenRead =
    (settings : Settings) (p : Packet) (payload out : List ℕ) (size : ℕ)
    → write_packet settings p (length payload) (length out) ≡ Ok size
    → (read_packet settings (take size (write_out settings p payload out)) ≡ Ok p)
    × (payload_of p (take size (write_out settings p payload out)) ≡ payload)

-- "reading then writing gives the same bytes with reserved bits cleared": where bytes are read, writing that packet
-- with the payload in them into any output with room, with the same settings, is accepted. The output is then the bytes
-- with reserved bits cleared, and the rest of it as it was.
abbrev pub ReadThenWrite : Type 0
ReadThenWrite =
    (settings : Settings) (packet : List ℕ) (p : Packet) (out : List ℕ)
    → Bytes packet
    → read_packet settings packet ≡ Ok p
    → length packet ≤ length out
    → (write_packet settings p (length (payload_of p packet)) (length out) ≡ Ok (length packet))
    × (write_out settings p (payload_of p packet) out ≡ over_front (clear_reserved packet) out)

-- "Reserved bits are .. zero on writing": in whatever is written, read before or not.
abbrev pub ReservedZero : Type 0
ReservedZero =
    (settings : Settings) (p : Packet) (payload out : List ℕ) (size : ℕ)
    → Bytes payload
    → write_packet settings p (length payload) (length out) ≡ Ok size
    → clear_reserved (take size (write_out settings p payload out)) ≡ take size (write_out settings p payload out)

-- "Reserved bits are ignored on reading": bytes with their reserved bits cleared read as the bytes themselves do,
-- accepted or refused.
abbrev pub ReservedIgnored : Type 0
ReservedIgnored =
    (settings : Settings) (packet : List ℕ)
    → Bytes packet
    → read_packet settings (clear_reserved packet) ≡ read_packet settings packet
