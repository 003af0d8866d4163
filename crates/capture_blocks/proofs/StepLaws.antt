-- What a step prints, and then what is still to come, is what was to come before it: one law for each progress.
use Prim.Native.Nat.{ℕ, ◌+◌}
use mathlib.Core.Path.{◌≡◌, refl, sym, ap, ◌∙◌}
use mathlib.Core.Bool.{Bool, true, false}
use mathlib.Core.List.{List, [], ◌∷◌, ◌++◌, append-nil}
use native.Mathlib.Nat.{add-zero}
use lib.ListN.{length}
use Rattle.tlp.specs.declared.settings.Settings.{Settings}
use Rattle.tlp.specs.declared.refusal.Refusal.TheVariants.{BadLine}
use Rattle.capture_lines.specs.Lines.{complete_lines, unended, over_long}
use Rattle.capture_print.specs.Outputs.{code_line}
use Rattle.capture_decode.specs.Decode.{Decoding, header_read, line_step, no_lines, tail_decoded, lines_decoded}
use Rattle.capture.specs.declared.header.Header.{Header}
use Rattle.std.specs.Prelude.{Option, Err}
use Rattle.std.specs.Prelude.{Some, None}
use Rattle.capture_lines.proofs.LineLaws.{Continued, open-still, ended, continued}
use Rattle.capture_blocks.specs.Blocks.{Stepping, step_lines, step_header, step_first, step_skipping, step_from}
use Rattle.capture_blocks.specs.declared.Progress.{Progress}
use Rattle.capture_blocks.specs.declared.Progress.TheVariants.{First, Lines, Skipping, Refused}
use Rattle.capture_blocks.proofs.DecodingLaws.{then, none_then, first_then, lines_then, lines-append, totals_from, totals-then, over-long-line, over-long-header, over-long-tail}

-- ---- what is still to come, of lines and an unended line

abbrev pub lines_ahead : Settings → List (List ℕ) → List ℕ → Decoding
lines_ahead c texts tail = lines_decoded c texts (tail_decoded tail)

-- the first line is the rest of one that is counted already
unfoldable pub rest_ahead : Settings → List (List ℕ) → List ℕ → Decoding
rest_ahead c [] tail = no_lines
rest_ahead c (rest ∷ texts) tail = lines_ahead c texts tail

abbrev pub header_ahead : Option Header → ℕ → ℕ → List (List ℕ) → List ℕ → List ℕ
header_ahead None lines refused texts tail = code_line 11
header_ahead (Some h) lines refused texts tail = totals_from lines refused (lines_ahead h.settings texts tail)

unfoldable pub first_ahead : ℕ → ℕ → List (List ℕ) → List ℕ → List ℕ
first_ahead lines refused [] tail = code_line 11
first_ahead lines refused (first ∷ texts) tail = header_ahead (header_read first) lines refused texts tail

abbrev pub ahead : Progress → ℕ → ℕ → List (List ℕ) → List ℕ → List ℕ
ahead First lines refused texts tail = first_ahead lines refused texts tail
ahead (Lines c) lines refused texts tail = totals_from lines refused (lines_ahead c texts tail)
ahead (Skipping c) lines refused texts tail = totals_from lines refused (rest_ahead c texts tail)
ahead Refused lines refused texts tail = []

-- what is still to come, of bytes
unfoldable pub bytes_ahead : Progress → ℕ → ℕ → List ℕ → List ℕ
bytes_ahead p lines refused bytes = ahead p lines refused (complete_lines bytes) (unended bytes)

-- a step's output, and then what is still to come of the bytes that it left and of y
unfoldable pub step_ahead : Stepping → ℕ → ℕ → (ℕ → List ℕ) → List ℕ → List ℕ
step_ahead stepping lines refused kept y =
    stepping.decoding.output ++ bytes_ahead stepping.progress (lines + stepping.decoding.lines) (refused + stepping.decoding.refused) (kept stepping.left ++ y)

-- ---- an unended line t, and y after it

module _ (t y : List ℕ) where
  -- it is over-long: it gives one bad line, and the rest of it nothing
  pub over-long-ahead : (c : Settings) → over_long t ≡ true → Continued t y
      → lines_ahead c (complete_lines (t ++ y)) (unended (t ++ y)) ≡ then (line_step (Err BadLine) no_lines) (rest_ahead c (complete_lines y) (unended y))
  unfolding lines_decoded rest_ahead
  over-long-ahead c h (open-still e f g) =
      rw (e, f, g, over-long-tail t y h) (first_then (Err BadLine) no_lines)
  over-long-ahead c h (ended text texts e f g) =
      rw (e, f, g, over-long-line t h c text) (first_then (Err BadLine) (lines_ahead c texts (unended y)))

  pub over-long-first : (lines refused : ℕ) → over_long t ≡ true → Continued t y → first_ahead lines refused (complete_lines (t ++ y)) (unended (t ++ y)) ≡ code_line 11
  unfolding first_ahead
  over-long-first lines refused h (open-still e f g) = rw f
  over-long-first lines refused h (ended text texts e f g) = rw (f, over-long-header t h text)

  -- it is the rest of a line that is counted already
  pub rest-ahead : (c : Settings) → Continued t y → rest_ahead c (complete_lines (t ++ y)) (unended (t ++ y)) ≡ rest_ahead c (complete_lines y) (unended y)
  unfolding rest_ahead
  rest-ahead c (open-still e f g) = rw (e, f)
  rest-ahead c (ended text texts e f g) = rw (e, f, g)

-- ---- a step that was given complete lines and the unended line t, of which it keeps all or nothing

module _ (t y : List ℕ) (n : complete_lines t ≡ []) (kept : ℕ → List ℕ) (none : kept 0 ≡ []) (all : kept (length t) ≡ t) (lines refused : ℕ) where
  -- the lines after the complete ones give e and then d
  lines-ahead : (c : Settings) (texts : List (List ℕ)) (e d : Decoding) → lines_ahead c (complete_lines (t ++ y)) (unended (t ++ y)) ≡ then e d
      → totals_from lines refused (lines_ahead c (texts ++ complete_lines (t ++ y)) (unended (t ++ y)))
      ≡ (lines_decoded c texts e).output ++ totals_from (lines + (lines_decoded c texts e).lines) (refused + (lines_decoded c texts e).refused) d
  lines-ahead c texts e d h =
      ap (totals_from lines refused) (lines-append c texts (complete_lines (t ++ y)) (tail_decoded (unended (t ++ y))) ∙ ap (lines_decoded c texts) h ∙ lines_then c texts e d)
      ∙ totals-then lines refused (lines_decoded c texts e) d

  lines-by : (c : Settings) (texts : List (List ℕ)) (b : Bool) → over_long t ≡ b
      → ahead (Lines c) lines refused (texts ++ complete_lines (t ++ y)) (unended (t ++ y)) ≡ step_ahead (step_lines c texts t) lines refused kept y
  unfolding step_lines step_ahead bytes_ahead
  lines-by c texts true h = rw (h, none) (lines-ahead c texts (line_step (Err BadLine) no_lines) _ (over-long-ahead t y c h (continued t y n)))
  lines-by c texts false h = rw (h, all) (lines-ahead c texts no_lines _ (sym (none_then _)))

  lines_step_lem : (c : Settings) (texts : List (List ℕ)) → ahead (Lines c) lines refused (texts ++ complete_lines (t ++ y)) (unended (t ++ y)) ≡ step_ahead (step_lines c texts t) lines refused kept y
  lines_step_lem c texts = lines-by c texts (over_long t) refl

  header-step : (h : Option Header) (texts : List (List ℕ)) → header_ahead h lines refused (texts ++ complete_lines (t ++ y)) (unended (t ++ y)) ≡ step_ahead (step_header h texts t) lines refused kept y
  unfolding step_ahead bytes_ahead
  header-step None texts = sym (append-nil (code_line 11))
  header-step (Some h) texts = lines_step_lem h.settings texts

  first_by : (b : Bool) → over_long t ≡ b → first_ahead lines refused (complete_lines (t ++ y)) (unended (t ++ y)) ≡ step_ahead (step_first [] t) lines refused kept y
  unfolding step_first step_ahead bytes_ahead
  first_by true h = rw h (over-long-first t y lines refused h (continued t y n) ∙ sym (append-nil (code_line 11)))
  first_by false h = rw (h, all, add-zero lines, add-zero refused)

  pub step-ahead : (p : Progress) (texts : List (List ℕ)) → ahead p lines refused (texts ++ complete_lines (t ++ y)) (unended (t ++ y)) ≡ step_ahead (step_from p texts t) lines refused kept y
  unfolding first_ahead rest_ahead step_first step_skipping step_ahead bytes_ahead
  step-ahead First [] = first_by (over_long t) refl
  step-ahead First (first ∷ texts) = header-step (header_read first) texts
  step-ahead (Lines c) texts = lines_step_lem c texts
  step-ahead (Skipping c) [] = rw (none, add-zero lines, add-zero refused) (ap (totals_from lines refused) (rest-ahead t y c (continued t y n)))
  step-ahead (Skipping c) (rest ∷ texts) = lines_step_lem c texts
  step-ahead Refused texts = refl
