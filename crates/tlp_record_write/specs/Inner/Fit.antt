-- For the contracts of kind_head.rt: which bytes are the record of a packet that can be written.
use Rattle.std.specs.Prelude.{ℕ, Bool, ◌&&◌, List, eqb}
use Rattle.tlp.specs.Rows.{first}
use Rattle.tlp_writable.specs.Given.{given_rows}
use Rattle.tlp_record.specs.Record.{record_packet, is_record}

-- a record, of a packet that holds nothing for which the writer gives its first 6
unfoldable pub writable : List ℕ → Bool
writable fields = is_record fields && eqb (first (given_rows (record_packet fields))) 0
