-- Document 01, the writer: its numbers in its order, what it answers, and what the output holds afterwards. A reader
-- must believe write_rows, write_packet, write_out and what they are built from here.
use Rattle.std.specs.Prelude.{ℕ, not, List, [], ◌∷◌, ◌++◌, eqb, ltb, length, Result, Ok, Err}
use Rattle.bits.specs.Put.{over_front}
use Rattle.tlp.specs.Rows.{Row, row, first}
use Rattle.tlp.specs.Refusals.{answered}
use Rattle.tlp.specs.Settings.{settings_listed}
use Rattle.tlp.specs.Packets.{type_of, access_of}
use Rattle.tlp.specs.Sizes.{data_bytes}
use Rattle.tlp.specs.Contents.{content_rows}
use Rattle.tlp.specs.declared.settings.Settings.{Settings}
use Rattle.tlp.specs.declared.packet.Packet.{Packet}
use Rattle.tlp.specs.declared.refusal.Refusal.{Refusal}
use Rattle.tlp_writable.specs.Given.{given_rows}
use Rattle.tlp_write.specs.Layout.{size_of, bytes_of}

-- "It refuses 11 first; then 6 .."
abbrev pub field_rows : Settings → Packet → List Row
field_rows settings p = row 11 (not (settings_listed settings)) ∷ given_rows p

-- the rows after these: "3 if the payload lent is not 4 x length bytes, or not empty for a kind without data; 5 to 9 as
-- above; last 12 if the output is shorter than the packet." n is the payload's size, room the output's. AT is written
-- 0, and no route has routing 110 or 111 (row 9).
abbrev pub later_rows : Settings → Packet → ℕ → ℕ → List Row
later_rows settings p n room =
    row 3 (not (eqb n (data_bytes (type_of p) (access_of p).length)))
    ∷ (content_rows settings.mps (type_of p) p 0
    ++ (row 12 (ltb room (size_of p))
    ∷ []))

abbrev pub write_rows : Settings → Packet → ℕ → ℕ → List Row
write_rows settings p n room = field_rows settings p ++ later_rows settings p n room

-- what writing answers: the number of the first row that holds, else the size written
unfoldable pub write_packet : Settings → Packet → ℕ → ℕ → Result ℕ Refusal
write_packet settings p n room = answered (first (write_rows settings p n room)) (size_of p)

abbrev pub out_after : Result ℕ Refusal → List ℕ → List ℕ → List ℕ
out_after (Ok n) xs out = over_front xs out
out_after (Err r) xs out = out

-- the output afterwards: "On success output beyond the packet is unchanged"; after a refusal all of it is
unfoldable pub write_out : Settings → Packet → List ℕ → List ℕ → List ℕ
write_out settings p payload out = out_after (write_packet settings p (length payload) (length out)) (bytes_of p payload) out
