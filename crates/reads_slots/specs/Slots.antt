-- What 11, 24 and owed ask of a tag's record. A reader must believe all of it.
use Rattle.std.specs.Prelude.{ℕ, Bool, true, false, Option, Some, None}
use Rattle.tlp.specs.declared.settings.Settings.{Settings}
use Rattle.reads_rules.specs.declared.read.Read.{Read}
use Rattle.reads_rules.specs.declared.request.ReadRequest.{ReadRequest}
use Rattle.reads_rules.specs.Windows.{shares_byte}
use Rattle.reads_rules.specs.Validity.{valid_read, owed_of}

-- closed records are not looked at
abbrev pub valid_state : Settings → Option Read → Bool
valid_state settings None = true
valid_state settings (Some r) = valid_read settings r

-- 24 of one record: "window shares a byte with an open read's window"
abbrev pub shares_in : ReadRequest → Option Read → Bool
shares_in q None = false
shares_in q (Some r) = shares_byte q r.request

-- what one record adds to "the sum of L - p over open reads"
abbrev pub owed_in : Option Read → ℕ
owed_in None = 0
owed_in (Some r) = owed_of r
