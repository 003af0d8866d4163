-- For the contracts of lines.rt: print_line, line_at and decode_lines.
use Rattle.std.specs.Prelude.{ℕ, suc, ◌+◌, ◌-◌, List, [], ◌∷◌, length, drop, Option, Some, None, Result}
use Rattle.bits.specs.Put.{put}
use Rattle.text.specs.Laid.{after}
use Rattle.tlp.specs.declared.settings.Settings.{Settings}
use Rattle.tlp.specs.declared.refusal.Refusal.{Refusal}
use Rattle.tlp.specs.declared.packet.Packet.{Packet}
use Rattle.capture_lines.specs.Lines.{complete_lines, unended}
use Rattle.capture_print.specs.Outputs.{output_line}
use Rattle.capture_decode.specs.Decode.{Decoding, no_lines, line_read, refused_count, lines_decoded}
use Rattle.capture_blocks.specs.declared.lines.LineDone.{LineDone}
use Rattle.capture_blocks.specs.declared.Progress.TheVariants.{Lines}
use Rattle.capture_blocks.specs.declared.Step.{Step}

-- a line that ends before index end, and what it gave printed from index at on
abbrev pub printed_line : Result Packet Refusal → ℕ → ℕ → List ℕ → LineDone
printed_line answer end at out =
    record { end = end; written = after at (output_line answer) out; refused = refused_count answer }

-- the first complete line, printed from index at on
abbrev pub line_done_in : Settings → ℕ → ℕ → List (List ℕ) → Option LineDone
line_done_in settings place at [] = None
line_done_in settings place at (text ∷ texts) = Some (record {
  end = place + suc (length text);
  written = at + length (output_line (line_read settings text));
  refused = refused_count (line_read settings text);
})

unfoldable pub line_done : Settings → List ℕ → ℕ → ℕ → Option LineDone
line_done settings bytes place at = line_done_in settings place at (complete_lines (drop place bytes))

abbrev pub line_over_in : Settings → ℕ → List (List ℕ) → List ℕ → List ℕ
line_over_in settings at [] out = out
line_over_in settings at (text ∷ texts) out = put at (output_line (line_read settings text)) out

unfoldable pub line_over : Settings → List ℕ → ℕ → ℕ → List ℕ → List ℕ
line_over settings bytes place at out = line_over_in settings at (complete_lines (drop place bytes)) out

-- the complete lines from a place on
unfoldable pub decoded_from : Settings → List ℕ → ℕ → Decoding
decoded_from settings bytes place = lines_decoded settings (complete_lines (drop place bytes)) no_lines

-- the step over them
unfoldable pub lines_from : Settings → List ℕ → ℕ → Step
lines_from settings bytes place = record {
  progress = Lines settings;
  used = length bytes - length (unended (drop place bytes));
  written = length (decoded_from settings bytes place).output;
  lines = (decoded_from settings bytes place).lines;
  refused = (decoded_from settings bytes place).refused;
}
