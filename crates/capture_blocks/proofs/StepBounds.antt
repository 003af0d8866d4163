-- How large the numbers of a step can be: what a caller that moves bytes and sums lines has to know.
use Prim.Native.Nat.{ℕ, ◌+◌, ◌≤◌}
use mathlib.Core.Path.{◌≡◌, refl, sym, ◌∙◌}
use mathlib.Core.Bool.{Bool, true, false}
use mathlib.Core.List.{List, [], ◌∷◌}
use native.Mathlib.Omega.{arith}
use lib.ListN.{length}
use borrow.Author.Tests.{ltb-true, ltb-false}
use Rattle.tlp.specs.declared.settings.Settings.{Settings}
use Rattle.tlp.specs.declared.refusal.Refusal.{Refusal}
use Rattle.tlp.specs.declared.refusal.Refusal.TheVariants.{BadLine}
use Rattle.capture_lines.specs.Lines.{text_most, over_long, complete_lines, unended}
use Rattle.capture_print.specs.Outputs.{code_line}
use Rattle.capture_decode.specs.Decode.{Decoding, header_read, line_read, line_step, no_lines, tail_decoded, lines_decoded}
use Rattle.capture.specs.declared.header.Header.{Header}
use Rattle.std.specs.Prelude.{Option, Result, Ok, Err}
use Rattle.std.specs.Prelude.{Some, None}
use Rattle.capture_lines.proofs.LineLaws.{complete-le}
use Rattle.capture_blocks.specs.Blocks.{Stepping, step_lines, step_header, step_first, step_skipping, step_from, step_of, end_of}
use Rattle.capture_blocks.specs.Answers.{step_in, has_room, answer_in, ending, step_answer, end_answer}
use Rattle.capture_blocks.specs.declared.Progress.{Progress}
use Rattle.capture_blocks.specs.declared.Progress.TheVariants.{First, Lines, Skipping, Refused}
use Rattle.capture_blocks.specs.declared.Step.{Step}
use Rattle.capture_blocks.proofs.LinesLaws.{refused-most}

-- ---- lines decoded

pub decoded-lines : (c : Settings) (texts : List (List ℕ)) (d : Decoding) → (lines_decoded c texts d).lines ≡ length texts + d.lines
unfolding lines_decoded
decoded-lines c [] d = omega arith
decoded-lines c (text ∷ texts) d = omega (arith, decoded-lines c texts d)

pub decoded-refused : (c : Settings) (texts : List (List ℕ)) (d : Decoding) → d.refused ≤ d.lines → (lines_decoded c texts d).refused ≤ (lines_decoded c texts d).lines
unfolding lines_decoded
decoded-refused c [] d h = h
decoded-refused c (text ∷ texts) d h = omega (arith, decoded-refused c texts d h, refused-most (line_read c text))

-- ---- a stepping

-- over so many bytes: no more lines than most, with the bytes that it leaves
pub record Bounded (size most : ℕ) (stepping : Stepping) : Type 0 where
  pub few : stepping.decoding.lines + stepping.left ≤ most
  pub fewer : stepping.decoding.refused ≤ stepping.decoding.lines
  pub short : stepping.left ≤ text_most
  pub inside : stepping.left ≤ size

-- no line, and nothing left
no_lines_lem : (size most : ℕ) (p : Progress) (text : List ℕ) → Bounded size most (record { progress = p; decoding = record { output = text; lines = 0; refused = 0 }; left = 0 })
no_lines_lem size most p text = record { few = omega arith; fewer = omega arith; short = omega arith; inside = omega arith }

module _ (size : ℕ) (tail : List ℕ) where
  lines-by : (c : Settings) (texts : List (List ℕ)) (b : Bool) → over_long tail ≡ b → length texts + length tail ≤ size → Bounded size size (step_lines c texts tail)
  unfolding step_lines over_long
  lines-by c texts true e h =
      let n = ltb-true text_most (length tail) e in
      rw e (record { few = omega (arith, h, n, decoded-lines c texts (line_step (Err BadLine) no_lines)); fewer = decoded-refused c texts (line_step (Err BadLine) no_lines) (omega arith); short = omega arith; inside = omega arith })
  lines-by c texts false e h =
      let n = ltb-false text_most (length tail) e in
      rw e (record { few = omega (arith, h, decoded-lines c texts no_lines); fewer = decoded-refused c texts no_lines (omega arith); short = omega (arith, n); inside = omega (arith, h) })

  lines-bounded : (c : Settings) (texts : List (List ℕ)) → length texts + length tail ≤ size → Bounded size size (step_lines c texts tail)
  lines-bounded c texts h = lines-by c texts (over_long tail) refl h

  header-bounded : (v : Option Header) (texts : List (List ℕ)) → length texts + length tail ≤ size → Bounded size size (step_header v texts tail)
  header-bounded None texts h = no_lines_lem size size Refused (code_line 11)
  header-bounded (Some v) texts h = lines-bounded v.settings texts h

  first_by : (b : Bool) → over_long tail ≡ b → length tail ≤ size → Bounded size size (step_first [] tail)
  unfolding step_first over_long
  first_by true e h = rw e (no_lines_lem size size Refused (code_line 11))
  first_by false e h = let n = ltb-false text_most (length tail) e in rw e (record { few = omega arith; fewer = omega arith; short = omega (arith, n); inside = h })

  from-bounded : (p : Progress) (texts : List (List ℕ)) → length texts + length tail ≤ size → Bounded size size (step_from p texts tail)
  unfolding step_first step_skipping
  from-bounded First [] h = first_by (over_long tail) refl (omega (arith, h))
  from-bounded First (first ∷ texts) h = header-bounded (header_read first) texts (omega (arith, h))
  from-bounded (Lines c) texts h = lines-bounded c texts h
  from-bounded (Skipping c) [] h = no_lines_lem size size (Skipping c) []
  from-bounded (Skipping c) (rest ∷ texts) h = lines-bounded c texts (omega (arith, h))
  from-bounded Refused texts h = no_lines_lem size size Refused []

pub step-bounded : (p : Progress) (bytes : List ℕ) → Bounded (length bytes) (length bytes) (step_of p bytes)
unfolding step_of
step-bounded p bytes = from-bounded (length bytes) (unended bytes) p (complete_lines bytes) (complete-le bytes)

tail-bounded : (size : ℕ) (p : Progress) (rest : List ℕ) → Bounded size 1 (record { progress = p; decoding = tail_decoded rest; left = 0 })
unfolding tail_decoded
tail-bounded size p [] = no_lines_lem size 1 p []
tail-bounded size p (b ∷ rest) = record { few = omega arith; fewer = omega arith; short = omega arith; inside = omega arith }

pub end-bounded : (p : Progress) (rest : List ℕ) → Bounded (length rest) 1 (ending p rest)
unfolding end_of
end-bounded First rest = no_lines_lem (length rest) 1 First (code_line 11)
end-bounded (Lines c) rest = tail-bounded (length rest) (Lines c) rest
end-bounded (Skipping c) rest = no_lines_lem (length rest) 1 (Skipping c) []
end-bounded Refused rest = no_lines_lem (length rest) 1 Refused []

-- ---- the step of an answer

stepped_by : (step : Step) (v : Stepping) (size : ℕ) (b : Bool) → Ok step ≡ answer_in v size b → step ≡ step_in v size
stepped_by step v size true e = cc
stepped_by step v size false e = cc

module _ (step : Step) (size most : ℕ) (v : Stepping) (g : Bounded size most v) (e : step ≡ step_in v size) where
  used_le : step.used ≤ size
  used_le = rw e (omega arith)

  lines-le : step.lines ≤ most
  lines-le = rw e (omega (arith, g.few))

  refused-le : step.refused ≤ step.lines
  refused-le = rw e g.fewer

-- of decode_block
module _ (p : Progress) (bytes out : List ℕ) (r : Result Step Refusal) (d : r ≡ step_answer p bytes out) (step : Step) (u : r ≡ Ok step) where
  pub block-step : step ≡ step_in (step_of p bytes) (length bytes)
  unfolding step_answer
  block-step = stepped_by step (step_of p bytes) (length bytes) (has_room (length bytes) out) (sym u ∙ d)

  pub block-used : step.used ≤ length bytes
  block-used = used_le step (length bytes) (length bytes) (step_of p bytes) (step-bounded p bytes) block-step

  pub block_refused : step.refused ≤ step.lines
  block_refused = refused-le step (length bytes) (length bytes) (step_of p bytes) (step-bounded p bytes) block-step

  -- each line has a byte of its own
  pub block_within : step.lines ≤ step.used
  block_within = rw block-step (omega (arith, (step-bounded p bytes).few))

-- of decode_end
module _ (p : Progress) (rest out : List ℕ) (r : Result Step Refusal) (d : r ≡ end_answer p rest out) (step : Step) (u : r ≡ Ok step) where
  pub end_step : step ≡ step_in (ending p rest) (length rest)
  unfolding end_answer
  end_step = stepped_by step (ending p rest) (length rest) (has_room 1 out) (sym u ∙ d)

  pub end-lines : step.lines ≤ 1
  end-lines = lines-le step (length rest) 1 (ending p rest) (end-bounded p rest) end_step

  pub end_refused : step.refused ≤ step.lines
  end_refused = refused-le step (length rest) 1 (ending p rest) (end-bounded p rest) end_step
