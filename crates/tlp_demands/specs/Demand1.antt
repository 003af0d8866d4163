-- Demand 1 of reader and writer: "A refusal comes exactly when the documents list its fault and carries the number
-- fixed there, and the table, the store and every lent output stay as they were." To be believed is all of this file;
-- the theorem is a `PacketDemand1`, proved in proofs/Demand1.antt.
use Rattle.std.specs.Prelude.{ℕ, ◌<◌, ◌≡◌, List, length, Ok}
use Rattle.bits.specs.Put.{over_front}
use Rattle.tlp.specs.Refusals.{number_in}
use Rattle.tlp.specs.Rows.{AnsweredBy}
use Rattle.tlp.specs.declared.settings.Settings.{Settings}
use Rattle.tlp.specs.declared.packet.Packet.{Packet}
use Rattle.tlp_read.specs.Read.{read_rows, read_packet, packet_in}
use Rattle.tlp_write.specs.Layout.{size_of, bytes_of}
use Rattle.tlp_write.specs.Write.{write_rows, write_packet, write_out}

-- reading bytes
pub record ReadExactly (settings : Settings) (packet : List ℕ) : Type 0 where
  pub number : AnsweredBy (number_in (read_packet settings packet)) (read_rows settings packet)
  -- accepted with the packet that stands in the bytes
  pub value : number_in (read_packet settings packet) ≡ 0 → read_packet settings packet ≡ Ok (packet_in packet)

-- writing a packet and its payload over the front of an output
pub record WriteExactly (settings : Settings) (p : Packet) (payload out : List ℕ) : Type 0 where
  pub number : AnsweredBy (number_in (write_packet settings p (length payload) (length out)))
      (write_rows settings p (length payload) (length out))
  -- accepted with the packet's size
  pub value : number_in (write_packet settings p (length payload) (length out)) ≡ 0
      → write_packet settings p (length payload) (length out) ≡ Ok (size_of p)
  -- which is that of its bytes
  pub size : number_in (write_packet settings p (length payload) (length out)) ≡ 0
      → length (bytes_of p payload) ≡ size_of p
  pub unchanged : 0 < number_in (write_packet settings p (length payload) (length out))
      → write_out settings p payload out ≡ out
  -- the packet's bytes, and then: "On success output beyond the packet is unchanged."
  pub written : number_in (write_packet settings p (length payload) (length out)) ≡ 0
      → write_out settings p payload out ≡ over_front (bytes_of p payload) out

pub record PacketDemand1 : Type 0 where
  pub reads : (settings : Settings) (packet : List ℕ) → ReadExactly settings packet
  pub writes : (settings : Settings) (p : Packet) (payload out : List ℕ) → WriteExactly settings p payload out
