-- A capture that comes block by block. Each step is given the bytes that the steps before it left, with a block behind
-- them. What a reader must believe: step_of, end_of and totals_of, of which decode_block, decode_end and put_totals_of
-- speak; and run_blocks and joined, of which EveryCutting does.
use Rattle.std.specs.Prelude.{ℕ, ◌+◌, ◌-◌, Bool, true, false, List, [], ◌∷◌, ◌++◌, length, drop, Err}
use Rattle.bits.specs.Choice.{pick}
use Rattle.tlp.specs.declared.settings.Settings.{Settings}
use Rattle.tlp.specs.declared.refusal.Refusal.TheVariants.{BadLine}
use Rattle.capture_lines.specs.Lines.{complete_lines, unended, over_long}
use Rattle.capture_print.specs.Outputs.{code_line, totals_line}
use Rattle.capture_decode.specs.Decode.{Decoding, line_step, no_lines, header_read, lines_decoded, tail_decoded}
use Rattle.capture.specs.declared.header.Header.{Header}
use Rattle.std.specs.Prelude.{Option}
use Rattle.std.specs.Prelude.{Some, None}
use Rattle.capture_blocks.specs.declared.Progress.{Progress}
use Rattle.capture_blocks.specs.declared.Progress.TheVariants.{First, Lines, Skipping, Refused}

-- what a step decodes, where it leaves the capture, and how many bytes it leaves for the next step
pub record Stepping : Type 0 where
  pub progress : Progress
  pub decoding : Decoding
  pub left : ℕ

-- an unended line is left for the next step; one that is over-long already is bad, whatever follows, and its rest is
-- skipped
unfoldable pub step_lines : Settings → List (List ℕ) → List ℕ → Stepping
step_lines settings texts tail =
    pick (over_long tail)
    (record { progress = Skipping settings; decoding = lines_decoded settings texts (line_step (Err BadLine) no_lines); left = 0 })
    (record { progress = Lines settings; decoding = lines_decoded settings texts no_lines; left = length tail })

-- "only `code=11`", and nothing of what follows
abbrev pub header_refused : Stepping
header_refused =
    record { progress = Refused; decoding = record { output = code_line 11; lines = 0; refused = 0 }; left = 0 }

abbrev pub step_header : Option Header → List (List ℕ) → List ℕ → Stepping
step_header None texts tail = header_refused
step_header (Some h) texts tail = step_lines h.settings texts tail

unfoldable pub step_first : List (List ℕ) → List ℕ → Stepping
step_first [] tail =
    pick (over_long tail) header_refused (record { progress = First; decoding = no_lines; left = length tail })
step_first (first ∷ texts) tail = step_header (header_read first) texts tail

unfoldable pub step_skipping : Settings → List (List ℕ) → List ℕ → Stepping
step_skipping settings [] tail = record { progress = Skipping settings; decoding = no_lines; left = 0 }
step_skipping settings (rest ∷ texts) tail = step_lines settings texts tail

abbrev pub step_from : Progress → List (List ℕ) → List ℕ → Stepping
step_from First texts tail = step_first texts tail
step_from (Lines settings) texts tail = step_lines settings texts tail
step_from (Skipping settings) texts tail = step_skipping settings texts tail
step_from Refused texts tail = record { progress = Refused; decoding = no_lines; left = 0 }

unfoldable pub step_of : Progress → List ℕ → Stepping
step_of p bytes = step_from p (complete_lines bytes) (unended bytes)

-- ---- the end of the input

-- what is printed there, before the totals: an unended first line, or a last line without newline
unfoldable pub end_of : Progress → List ℕ → Decoding
end_of First rest = record { output = code_line 11; lines = 0; refused = 0 }
end_of (Lines settings) rest = tail_decoded rest
end_of (Skipping settings) rest = no_lines
end_of Refused rest = no_lines

-- whether the totals follow: not where line one is missing or bad
unfoldable pub totals_follow : Progress → Bool
totals_follow First = false
totals_follow (Lines settings) = true
totals_follow (Skipping settings) = true
totals_follow Refused = false

-- the totals, where they follow
abbrev pub totals_of : Progress → ℕ → ℕ → List ℕ
totals_of p lines refused = pick (totals_follow p) (totals_line lines refused) []

-- ---- a whole run

-- lines and refused lines, summed over the steps
unfoldable pub last_text : Progress → Decoding → ℕ → ℕ → List ℕ
last_text p d lines refused = d.output ++ totals_of p (lines + d.lines) (refused + d.refused)

unfoldable pub run_from : Progress → List ℕ → ℕ → ℕ → List (List ℕ) → List ℕ
run_from p rest lines refused [] = last_text p (end_of p rest) lines refused
run_from p rest lines refused (block ∷ blocks) =
    let bytes = rest ++ block in
    let stepping = step_of p bytes in
    stepping.decoding.output
    ++ run_from stepping.progress (drop (length bytes - stepping.left) bytes) (lines + stepping.decoding.lines) (refused + stepping.decoding.refused) blocks

-- the output for an input that comes in these blocks
unfoldable pub run_blocks : List (List ℕ) → List ℕ
run_blocks blocks = run_from First [] 0 0 blocks

unfoldable pub joined : List (List ℕ) → List ℕ
joined [] = []
joined (block ∷ blocks) = block ++ joined blocks
