-- Writing the packet that a record describes: 11, then 6 for what is no record, then as the writer. A reader must
-- believe record_answer and record_out.
use Rattle.std.specs.Prelude.{ℕ, not, List, length, Result, Err}
use Rattle.bits.specs.Choice.{pick}
use Rattle.tlp.specs.Settings.{settings_listed}
use Rattle.tlp.specs.declared.settings.Settings.{Settings}
use Rattle.tlp.specs.declared.refusal.Refusal.{Refusal}
use Rattle.tlp.specs.declared.refusal.Refusal.TheVariants.{BadField, BadSetting}
use Rattle.tlp_write.specs.Layout.{bytes_of}
use Rattle.tlp_write.specs.Write.{write_packet, out_after}
use Rattle.tlp_record.specs.Record.{record_packet, is_record}

unfoldable pub record_answer : Settings → List ℕ → ℕ → ℕ → Result ℕ Refusal
record_answer settings fields n room =
    pick (not (settings_listed settings)) (Err BadSetting)
    (pick (not (is_record fields)) (Err BadField)
    (write_packet settings (record_packet fields) n room))

-- the output afterwards: the packet over its front, or as it was
unfoldable pub record_out : Settings → List ℕ → List ℕ → List ℕ → List ℕ
record_out settings fields payload out = out_after (record_answer settings fields (length payload) (length out)) (bytes_of (record_packet fields) payload) out
