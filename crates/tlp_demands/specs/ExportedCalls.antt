-- Demands 1 and 2 of the functions for C, tollpebble_read and tollpebble_write, over the record, output and size that a
-- host lends. The definitions are those of their contracts. To be believed is all of this file; the theorems are
-- `ExportedDemand1`, `RecordReadThenWrite` and `RecordWriteThenRead`, proved in proofs/ExportedCalls.antt.
use Rattle.std.specs.Prelude.{ℕ, ◌<◌, ◌≤◌, ◌≡◌, not, List, [], ◌∷◌, ◌++◌, ltb, length, take}
use Rattle.bits.specs.Put.{over_front}
use Rattle.bits.specs.Word.{Bytes}
use Rattle.tlp.specs.Rows.{Row, row, AnsweredBy}
use Rattle.tlp.specs.Reserved.{clear_reserved}
use Rattle.tlp.specs.Settings.{settings_listed}
use Rattle.tlp.specs.declared.settings.Settings.{Settings}
use Rattle.tlp_read.specs.Read.{read_rows, read_packet, packet_in, payload_in}
use Rattle.tlp_writable.specs.Given.{given_rows}
use Rattle.tlp_write.specs.Layout.{bytes_of}
use Rattle.tlp_write.specs.Write.{later_rows}
use Rattle.tlp_record.specs.Places.{record_size}
use Rattle.tlp_record.specs.Record.{record_of, record_packet, is_record}
use Rattle.tlp_record_read.specs.RecordRead.{read_number, read_record}
use Rattle.tlp_record_write.specs.RecordWrite.{record_out}
use Rattle.tlp_c.specs.Calls.{write_number, written_size}

-- ---- demand 1: "A refusal comes exactly when the documents list its fault and carries the number fixed there, and ..
-- every lent output stay as they were."

-- tollpebble_read's list: the reader's, and last 12 where the record that is lent is too short
abbrev pub exported_read_rows : Settings → List ℕ → ℕ → List Row
exported_read_rows settings packet room = read_rows settings packet ++ (row 12 (ltb room record_size) ∷ [])

-- tollpebble_write's: 11, 6 for what is no record, then the writer's: its first 6, 3, 5 to 8, 12
abbrev pub exported_write_rows : Settings → List ℕ → ℕ → ℕ → List Row
exported_write_rows settings fields n room =
    row 11 (not (settings_listed settings))
    ∷ row 6 (not (is_record fields))
    ∷ (given_rows (record_packet fields) ++ later_rows settings (record_packet fields) n room)

pub record ExportedReadExactly (settings : Settings) (packet lent : List ℕ) : Type 0 where
  pub number : AnsweredBy (read_number (read_packet settings packet) (length lent))
      (exported_read_rows settings packet (length lent))
  pub unchanged : 0 < read_number (read_packet settings packet) (length lent)
      → read_record (read_packet settings packet) lent ≡ lent
  -- the record of the packet in the bytes, over the front of the one that is lent
  pub laid : read_number (read_packet settings packet) (length lent) ≡ 0
      → read_record (read_packet settings packet) lent ≡ over_front (record_of (packet_in packet)) lent

pub record ExportedWriteExactly (settings : Settings) (fields payload out : List ℕ) (size : ℕ) : Type 0 where
  pub number : AnsweredBy (write_number settings fields (length payload) (length out))
      (exported_write_rows settings fields (length payload) (length out))
  pub unchanged : 0 < write_number settings fields (length payload) (length out)
      → (record_out settings fields payload out ≡ out)
      × (written_size settings fields (length payload) (length out) size ≡ size)
  -- the bytes of the packet that the record describes, over the front of the output, and their size
  pub written : write_number settings fields (length payload) (length out) ≡ 0
      → (record_out settings fields payload out ≡ over_front (bytes_of (record_packet fields) payload) out)
      × (written_size settings fields (length payload) (length out) size
      ≡ length (bytes_of (record_packet fields) payload))

pub record ExportedDemand1 : Type 0 where
  pub reads : (settings : Settings) (packet lent : List ℕ) → ExportedReadExactly settings packet lent
  pub writes : (settings : Settings) (fields payload out : List ℕ) (size : ℕ)
      → ExportedWriteExactly settings fields payload out size

-- ---- demand 2

-- the record that lies at the front of what was lent for it
abbrev pub laid_record : List ℕ → List ℕ
laid_record lent = take record_size lent

-- "reading then writing gives the same bytes with reserved bits cleared": bytes are read into a lent record, and what
-- then lies in it is written with the payload that stands in the bytes, into any output with room
abbrev pub RecordReadThenWrite : Type 0
RecordReadThenWrite =
    (settings : Settings) (packet lent out : List ℕ) (size : ℕ)
    → Bytes packet
    → read_number (read_packet settings packet) (length lent) ≡ 0
    → length packet ≤ length out
    → let fields = laid_record (read_record (read_packet settings packet) lent) in
    (write_number settings fields (length (payload_in packet)) (length out) ≡ 0)
    × ((record_out settings fields (payload_in packet) out ≡ over_front (clear_reserved packet) out)
    × (written_size settings fields (length (payload_in packet)) (length out) size ≡ length packet))

-- "Writing then reading gives the same packet": a packet is written from a record, and as many bytes of the output as
-- were written are read into any lent record with room: the same record lies there, and the payload is the one that was
-- lent
abbrev pub RecordWriteThenRead : Type 0
RecordWriteThenRead =
    (settings : Settings) (fields payload out lent : List ℕ) (size : ℕ)
    → write_number settings fields (length payload) (length out) ≡ 0
    → record_size ≤ length lent
    → let written = written_size settings fields (length payload) (length out) size in
    let packet = take written (record_out settings fields payload out) in
    (read_number (read_packet settings packet) (length lent) ≡ 0)
    × ((read_record (read_packet settings packet) lent ≡ over_front fields lent)
    × (payload_in packet ≡ payload))
