-- For the contract of lay_packet, on which the table's open builds: writing for who knows that no row of the packet's
-- fields holds, so that of the rows 3, 5 and 12 alone are looked at. n is the payload's size, room the output's.
use Rattle.std.specs.Prelude.{ℕ, not, List, [], ◌∷◌, eqb, ltb, length, Result}
use Rattle.tlp.specs.Rows.{Row, row, first}
use Rattle.tlp.specs.Refusals.{answered}
use Rattle.tlp.specs.Packets.{type_of, access_of}
use Rattle.tlp.specs.Sizes.{data_bytes}
use Rattle.tlp.specs.declared.packet.Packet.{Packet}
use Rattle.tlp.specs.declared.refusal.Refusal.{Refusal}
use Rattle.tlp_write.specs.Layout.{size_of, bytes_of}
use Rattle.tlp_write.specs.Write.{out_after}

abbrev pub lay_rows : ℕ → Packet → ℕ → ℕ → List Row
lay_rows mps p n room =
    row 3 (not (eqb n (data_bytes (type_of p) (access_of p).length)))
    ∷ row 5 (ltb mps (data_bytes (type_of p) (access_of p).length))
    ∷ row 12 (ltb room (size_of p))
    ∷ []

unfoldable pub lay_answer : ℕ → Packet → ℕ → ℕ → Result ℕ Refusal
lay_answer mps p n room = answered (first (lay_rows mps p n room)) (size_of p)

unfoldable pub lay_out : ℕ → Packet → List ℕ → List ℕ → List ℕ
lay_out mps p payload out = out_after (lay_answer mps p (length payload) (length out)) (bytes_of p payload) out
