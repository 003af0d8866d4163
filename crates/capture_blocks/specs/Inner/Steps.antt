-- For the contracts of the step functions in lib.rt.
use Rattle.std.specs.Prelude.{ℕ, ◌-◌, List, take, drop}
use Rattle.bits.specs.Put.{put}
use Rattle.text.specs.Laid.{after}
use Rattle.tlp.specs.declared.settings.Settings.{Settings}
use Rattle.capture_lines.specs.Lines.{complete_lines, unended}
use Rattle.capture_print.specs.Outputs.{code_line}
use Rattle.capture.specs.Headers.{header_line}
use Rattle.capture_blocks.specs.Blocks.{Stepping, step_lines, step_header, step_first, step_skipping}
use Rattle.capture_blocks.specs.declared.Progress.{Progress}
use Rattle.capture_blocks.specs.declared.Step.{Step}

-- of step_lines: the lines from index from on
abbrev pub lines_step : Settings → List ℕ → ℕ → Stepping
lines_step settings bytes from = step_lines settings (complete_lines (drop from bytes)) (unended (drop from bytes))

-- of step_header: line one, whose newline stands before index end, and the lines from there on
abbrev pub header_step : List ℕ → ℕ → Stepping
header_step bytes end =
    step_header (header_line (take (end - 1 - 0) (drop 0 bytes)))
    (complete_lines (drop end bytes)) (unended (drop end bytes))

abbrev pub first_step : List ℕ → Stepping
first_step bytes = step_first (complete_lines bytes) (unended bytes)

abbrev pub skipping_step : Settings → List ℕ → Stepping
skipping_step settings bytes = step_skipping settings (complete_lines bytes) (unended bytes)

-- the output after a step
abbrev pub printed_step : Stepping → List ℕ → List ℕ
printed_step stepping out = put 0 stepping.decoding.output out

-- of silent: nothing is printed
abbrev pub silent_step : Progress → ℕ → Step
silent_step progress used = record { progress = progress; used = used; written = 0; lines = 0; refused = 0 }

-- of print_refusal: over so many bytes, a number alone, for so many lines
abbrev pub number_step : Progress → ℕ → ℕ → ℕ → List ℕ → Step
number_step progress size number lines out =
    record { progress = progress; used = size; written = after 0 (code_line number) out; lines = lines; refused = lines }
