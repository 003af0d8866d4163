-- Demand 1 of reader and writer: the theorem `PacketDemand1`.
use Prim.Native.Nat.{ℕ, zero, suc, ◌<◌}
use mathlib.Core.Bool.{true}
use mathlib.Core.Path.{◌∙◌, ◌≡◌, refl, sym}
use mathlib.Core.List.{List}
use native.Mathlib.Omega.{arith}
use lib.ListN.{length}
use Rattle.bits.specs.Put.{over_front}
use Rattle.std.specs.Prelude.{Ok}
use Rattle.tlp.specs.Refusals.{refusal, answered, number_in, all_listed}
use Rattle.tlp.proofs.RefusalLaws.{number-answered}
use Rattle.tlp.specs.Rows.{Row, first, AnsweredBy}
use Rattle.tlp.specs.declared.settings.Settings.{Settings}
use Rattle.tlp.specs.declared.packet.Packet.{Packet}
use Rattle.tlp.proofs.RowLaws.{answered-by}
use Rattle.tlp_read.specs.Read.{read_rows, read_packet, packet_in}
use Rattle.tlp_write.specs.Layout.{size_of, bytes_of}
use Rattle.tlp_write.specs.Write.{write_rows, write_packet, write_out, out_after}
use Rattle.tlp_demands.specs.Demand1.{ReadExactly, WriteExactly, PacketDemand1}
use Rattle.tlp_demands.proofs.WriteRead.{bytes_read}

-- ---- the reader's answer

-- an answer without a number is accepted
pub value-answered : {A : Type 0} (x : A) (rs : List Row) → all_listed rs ≡ true → number_in (answered (first rs) x) ≡ 0 → answered (first rs) x ≡ Ok x
value-answered x rs h e = let z : first rs ≡ 0 = sym (number-answered x rs h) ∙ e in rw z

module _ (settings : Settings) (packet : List ℕ) where
  read-answered : AnsweredBy (number_in (read_packet settings packet)) (read_rows settings packet)
  unfolding read_packet refusal
  read-answered = answered-by (read_rows settings packet) _ refl (number-answered (packet_in packet) (read_rows settings packet) refl)

  read-accepted : number_in (read_packet settings packet) ≡ 0 → read_packet settings packet ≡ Ok (packet_in packet)
  unfolding read_packet refusal
  read-accepted = value-answered (packet_in packet) (read_rows settings packet) refl

read-exactly : (settings : Settings) (packet : List ℕ) → ReadExactly settings packet
read-exactly settings packet = record { number = read-answered settings packet; value = read-accepted settings packet }

-- ---- the writer's answer

module _ (n size : ℕ) (xs out : List ℕ) where
  pub out-unchanged : 0 < number_in (answered n size) → out_after (answered n size) xs out ≡ out
  out-unchanged = by n
    where
      by : (m : ℕ) → 0 < number_in (answered m size) → out_after (answered m size) xs out ≡ out
      by zero h = absurd (omega arith)
      by (suc m) h = refl

  pub out_written : answered n size ≡ Ok size → out_after (answered n size) xs out ≡ over_front xs out
  out_written e = rw e

write-exactly : (settings : Settings) (p : Packet) (payload out : List ℕ) → WriteExactly settings p payload out
unfolding write_packet write_out refusal
write-exactly settings p payload out =
    let rows = write_rows settings p (length payload) (length out) in
    let value = value-answered (size_of p) rows refl in
    record {
      number = answered-by rows _ refl (number-answered (size_of p) rows refl);
      value = value;
      size = λ e. sym (bytes_read settings p payload (length out) (size_of p) (value e)).1.1;
      unchanged = out-unchanged (first rows) (size_of p) (bytes_of p payload) out;
      written = λ e. out_written (first rows) (size_of p) (bytes_of p payload) out (value e);
    }

pub packet-demand1 : PacketDemand1
packet-demand1 = record { reads = read-exactly; writes = write-exactly }
