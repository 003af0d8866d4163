-- Eight bytes of room for each byte of a line are enough for what it prints.
use Prim.Native.Nat.{ℕ, suc, ◌*◌, ◌≤◌}
use mathlib.Core.Path.{◌≡◌, refl}
use mathlib.Core.Bool.{Bool, true, false}
use mathlib.Core.List.{List}
use Rattle.std.specs.Prelude.{Option, Some, None, Err}
use native.Mathlib.Omega.{arith}
use lib.ListN.{length}
use Rattle.bits.specs.Choice.{pick}
use Rattle.tlp.specs.declared.settings.Settings.{Settings}
use Rattle.capture_lines.specs.Lines.{over_long}
use Rattle.capture_print.specs.Outputs.{output_line}
use Rattle.tlp.specs.declared.refusal.Refusal.TheVariants.{BadLine}
use Rattle.tlp_read.specs.Read.{read_packet}
use Rattle.capture_print.proofs.PrintLaws.{code-most, output-most}
use Rattle.capture.specs.PacketLines.{PacketText, packet_line}
use Rattle.capture.proofs.PacketBytes.{packet-least}
use Rattle.capture_decode.specs.Decode.{text_read, line_read}
use Rattle.capture_decode.specs.Printed.{printed_each}

bad-room : (n : ℕ) → length (output_line (Err BadLine)) ≤ printed_each * suc n
bad-room n = omega (arith, code-most BadLine)

text-room : (settings : Settings) (text : List ℕ) (o : Option PacketText) → packet_line text ≡ o → length (output_line (text_read settings o)) ≤ printed_each * suc (length text)
text-room settings text (Some p) e = omega (arith, packet-least text p e, output-most (read_packet settings p.bytes))
text-room settings text None e = bad-room (length text)

-- eight bytes for each byte of a line, its newline too
pub output-room : (settings : Settings) (text : List ℕ) → length (output_line (line_read settings text)) ≤ printed_each * suc (length text)
unfolding line_read
output-room settings text = room_by (over_long text)
  where
    room_by : (t : Bool) → length (output_line (pick t (Err BadLine) (text_read settings (packet_line text)))) ≤ printed_each * suc (length text)
    room_by true = bad-room (length text)
    room_by false = text-room settings text (packet_line text) refl
