-- What the exported functions answer, by the packet definitions, and what they leave in what is lent to them. A reader
-- must believe all of these.
use Rattle.std.specs.Prelude.{ℕ, List, Result, Ok, Err}
use Rattle.tlp.specs.declared.settings.Settings.{Settings}
use Rattle.tlp.specs.declared.refusal.Refusal.{Refusal}
use Rattle.tlp.specs.Refusals.{number_in}
use Rattle.tlp_record_write.specs.RecordWrite.{record_answer}

-- settings as numbers
abbrev pub settings_of : ℕ → ℕ → ℕ → Settings
settings_of mps mrrs rcb = record { mps = mps; mrrs = mrrs; rcb = rcb }

-- ---- writing: as record_answer says; reading is as read_number and read_record of tlp_record_read say

abbrev pub size_written : Result ℕ Refusal → ℕ → ℕ
size_written (Ok n) old = n
size_written (Err r) old = old

unfoldable pub write_number : Settings → List ℕ → ℕ → ℕ → ℕ
write_number settings fields n room = number_in (record_answer settings fields n room)

-- the size afterwards: that of the packet, or as it was
unfoldable pub written_size : Settings → List ℕ → ℕ → ℕ → ℕ → ℕ
written_size settings fields n room old = size_written (record_answer settings fields n room) old
