-- However read cuts the input into blocks, the texts joined are the decoding of the whole: the theorem PrintsDecoding,
-- by that of every cutting. After a failure nothing more is printed: StopsPrinting.
use Prim.Native.Nat.{ℕ}
use mathlib.Core.Path.{◌≡◌, refl, sym, ap, ◌∙◌}
use mathlib.Core.Bool.{true, false}
use mathlib.Core.List.{List, [], ◌∷◌, ◌++◌, append-nil}
use Rattle.capture_blocks.specs.Blocks.{end_of, totals_follow, last_text, run_from, run_blocks, joined}
use Rattle.capture_blocks.specs.declared.Progress.{Progress}
use Rattle.capture_blocks.specs.declared.Progress.TheVariants.{First, Lines, Skipping, Refused}
use Rattle.capture_blocks.proofs.EveryCutting.{every-cutting, refused-run}
use Rattle.decode.specs.Turns.{goes_on, Stage, first_stage, next_stage, next_text, after_step, kept_bytes, step_text, end_text, texts, printed}
use Rattle.decode.specs.PrintsDecoding.{PrintsDecoding, StopsPrinting}

abbrev run_on : Stage → List (List ℕ) → List ℕ
run_on stage blocks = run_from stage.run.progress stage.kept stage.run.lines stage.run.refused blocks

-- a stage that asks for more
texts-go-on : (stage : Stage) (block : List ℕ) (blocks : List (List ℕ)) → stage.run.more ≡ true → joined (texts stage (block ∷ blocks)) ≡ next_text stage block ++ joined (texts (next_stage stage block) blocks)
unfolding texts joined
texts-go-on stage block blocks m = rw m

-- one that does not: the end alone
texts-end : (stage : Stage) (block : List ℕ) (blocks : List (List ℕ)) → stage.run.more ≡ false → joined (texts stage (block ∷ blocks)) ≡ end_text stage.run stage.kept
unfolding texts joined end_text
texts-end stage block blocks m = rw m (append-nil (end_text stage.run stage.kept))

-- one step, before what the blocks behind it give
module _ (block : List ℕ) (blocks : List (List ℕ)) (stage : Stage) (behind : joined (texts (next_stage stage block) blocks) ≡ run_on (next_stage stage block) blocks) where
  on-by : stage.run.more ≡ true → joined (texts stage (block ∷ blocks)) ≡ run_on stage (block ∷ blocks)
  unfolding step_text after_step kept_bytes run_from
  on-by m = texts-go-on stage block blocks m ∙ ap (λ text. next_text stage block ++ text) behind

  more_by : (p : Progress) → stage.run.progress ≡ p → stage.run.more ≡ goes_on p → joined (texts stage (block ∷ blocks)) ≡ run_on stage (block ∷ blocks)
  unfolding end_text last_text end_of totals_follow
  more_by First e m = on-by m
  more_by (Lines settings) e m = on-by m
  more_by (Skipping settings) e m = on-by m
  more_by Refused e m = texts-end stage block blocks m ∙ rw e (sym (refused-run (block ∷ blocks) stage.kept stage.run.lines stage.run.refused))

-- a stage at which more says whether the progress goes on
run_on_lem : (blocks : List (List ℕ)) (stage : Stage) → stage.run.more ≡ goes_on stage.run.progress → joined (texts stage blocks) ≡ run_on stage blocks
unfolding texts joined end_text run_from after_step
run_on_lem [] stage m = append-nil (end_text stage.run stage.kept)
run_on_lem (block ∷ blocks) stage m = more_by block blocks stage (run_on_lem blocks (next_stage stage block) refl) stage.run.progress refl m

pub prints-decoding : PrintsDecoding
unfolding printed run_blocks
prints-decoding blocks = run_on_lem blocks first_stage refl ∙ every-cutting blocks

pub stops-printing : StopsPrinting
unfolding end_text last_text end_of totals_follow
stops-printing kept = refl
