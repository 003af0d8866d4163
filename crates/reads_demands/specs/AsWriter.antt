-- Document 01, open: "6, 7, 8 as the writer", and 12. They are the numbers that the writer gives for the packet whose
-- header open writes, with no payload: the theorem `AsWriter`.
use Rattle.std.specs.Prelude.{ℕ, ◌^◌, ◌<◌, ◌≡◌, true, List, [], ◌∷◌, ◌++◌, ltb}
use Rattle.tlp.specs.Rows.{Row, row, first}
use Rattle.tlp.specs.Settings.{settings_listed}
use Rattle.tlp.specs.declared.settings.Settings.{Settings}
use Rattle.tlp_write.specs.Layout.{size_of}
use Rattle.tlp_write.specs.Write.{write_rows}
use Rattle.reads_rules.specs.declared.request.ReadRequest.{ReadRequest}
use Rattle.reads_rules.specs.Requests.{request_packet, request_rows}

-- open's 6, 7, 8, and 12 with an output of space bytes
abbrev pub open_write_rows : ℕ → ℕ → ReadRequest → ℕ → List Row
open_write_rows requester tag q space =
    request_rows q ++ (row 12 (ltb space (size_of (request_packet requester tag q))) ∷ [])

-- for every request, listed settings, "one 16-bit requester ID" and a tag of 8 bits
abbrev pub AsWriter : Type 0
AsWriter = (settings : Settings) (requester tag : ℕ) (q : ReadRequest) (space : ℕ)
    → settings_listed settings ≡ true
    → requester < 2 ^ 16
    → tag < 2 ^ 8
    → first (write_rows settings (request_packet requester tag q) 0 space) ≡ first (open_write_rows requester tag q space)
