-- A capture's bytes to the bytes of its decoding: document 01, Captures. What a reader must believe: decode_text, and
-- with it the whole file.
use Rattle.std.specs.Prelude.{ℕ, suc, ◌+◌, List, [], ◌∷◌, ◌++◌, Option, Some, None, Result, Ok, Err}
use Rattle.bits.specs.Choice.{pick}
use Rattle.tlp.specs.declared.settings.Settings.{Settings}
use Rattle.tlp.specs.declared.packet.Packet.{Packet}
use Rattle.tlp.specs.declared.refusal.Refusal.{Refusal}
use Rattle.tlp.specs.declared.refusal.Refusal.TheVariants.{BadLine}
use Rattle.tlp_read.specs.Read.{read_packet}
use Rattle.capture_lines.specs.Lines.{complete_lines, unended, over_long}
use Rattle.capture.specs.Headers.{header_line}
use Rattle.capture.specs.PacketLines.{PacketText, packet_line}
use Rattle.capture_print.specs.Outputs.{code_line, output_line, totals_line}
use Rattle.capture.specs.declared.header.Header.{Header}

-- what the packet of a line gives: "any other bad line .. gives `code=13`"
abbrev pub text_read : Settings → Option PacketText → Result Packet Refusal
text_read settings None = Err BadLine
text_read settings (Some p) = read_packet settings p.bytes

-- what a complete line after the first gives
unfoldable pub line_read : Settings → List ℕ → Result Packet Refusal
line_read settings text = pick (over_long text) (Err BadLine) (text_read settings (packet_line text))

-- "A bad .. first line": over-long, or none of a header's form
unfoldable pub header_read : List ℕ → Option Header
header_read text = pick (over_long text) None (header_line text)

-- what lines print, how many they are, and how many of them are refused
pub record Decoding : Type 0 where
  pub output : List ℕ
  pub lines : ℕ
  pub refused : ℕ

abbrev pub refused_count : Result Packet Refusal → ℕ
refused_count (Ok p) = 0
refused_count (Err r) = 1

-- one line, before what the lines behind it give
abbrev pub line_step : Result Packet Refusal → Decoding → Decoding
line_step answer d = record {
  output = output_line answer ++ d.output;
  lines = suc d.lines;
  refused = refused_count answer + d.refused;
}

abbrev pub no_lines : Decoding
no_lines = record { output = []; lines = 0; refused = 0 }

-- "or a last line without newline"
unfoldable pub tail_decoded : List ℕ → Decoding
tail_decoded [] = no_lines
tail_decoded (b ∷ tail) = line_step (Err BadLine) no_lines

-- the step folded over the complete lines, before what d gives
unfoldable pub lines_decoded : Settings → List (List ℕ) → Decoding → Decoding
lines_decoded settings [] d = d
lines_decoded settings (text ∷ texts) d = line_step (line_read settings text) (lines_decoded settings texts d)

abbrev pub with_totals : Decoding → List ℕ
with_totals d = d.output ++ totals_line d.lines d.refused

abbrev pub header_decoded : Option Header → List (List ℕ) → List ℕ → List ℕ
header_decoded None texts tail = code_line 11
header_decoded (Some h) texts tail = with_totals (lines_decoded h.settings texts (tail_decoded tail))

-- "A bad, missing or unended first line gives only `code=11`"
unfoldable pub text_decoded : List (List ℕ) → List ℕ → List ℕ
text_decoded [] tail = code_line 11
text_decoded (first ∷ texts) tail = header_decoded (header_read first) texts tail

-- the decoding of a whole input
unfoldable pub decode_text : List ℕ → List ℕ
decode_text input = text_decoded (complete_lines input) (unended input)
