-- What the program does, turn by turn: each turn reads once, behind the bytes that are kept, decodes and prints. What a
-- reader must believe: all of it. That the texts, joined, are the decoding of the input is the theorem PrintsDecoding.
use Rattle.std.specs.Prelude.{ℕ, zero, suc, ◌+◌, ◌-◌, ◌≡◌, Bool, true, false, List, [], ◌∷◌, ◌++◌, Option, Some, None, length, drop}
use Rattle.bits.specs.Choice.{pick}
use Rattle.text.specs.Words.{part}
use Rattle.capture_blocks.specs.Blocks.{step_of, end_of, last_text, joined}
use Rattle.capture_blocks.specs.declared.Progress.{Progress}
use Rattle.capture_blocks.specs.declared.Progress.TheVariants.{First, Lines, Skipping, Refused}
use Rattle.decode.specs.declared.run.Run.{Run}

-- ---- a run

-- before the first byte
abbrev pub first_run : Run
first_run = record { progress = First; kept = 0; lines = 0; refused = 0; more = true }

-- at the end of the input
abbrev pub ended_run : Run → Run
ended_run run = record {
  progress = run.progress;
  kept = run.kept;
  lines = run.lines;
  refused = run.refused;
  more = false;
}

-- after a read or a write that failed: nothing more is printed
abbrev pub stopped_run : Run
stopped_run = record { progress = Refused; kept = 0; lines = 0; refused = 0; more = false }

-- whether what follows can print anything: not after a bad first line
abbrev pub goes_on : Progress → Bool
goes_on First = true
goes_on (Lines settings) = true
goes_on (Skipping settings) = true
goes_on Refused = false

-- so many lines and refused lines more
abbrev pub advanced_run : Run → Progress → ℕ → ℕ → ℕ → Run
advanced_run run progress kept lines refused = record {
  progress = progress;
  kept = kept;
  lines = run.lines + lines;
  refused = run.refused + refused;
  more = goes_on progress;
}

-- ---- a step over the kept bytes with a block behind them

unfoldable pub after_step : Run → List ℕ → Run
after_step run bytes =
    let stepping = step_of run.progress bytes in
    advanced_run run stepping.progress stepping.left stepping.decoding.lines stepping.decoding.refused

-- the bytes of a line that is not complete
unfoldable pub kept_bytes : Progress → List ℕ → List ℕ
kept_bytes progress bytes = drop (length bytes - (step_of progress bytes).left) bytes

-- what is printed for it
unfoldable pub step_text : Progress → List ℕ → List ℕ
step_text progress bytes = (step_of progress bytes).decoding.output

-- what is printed at the end: what the kept bytes give, and the totals
unfoldable pub end_text : Run → List ℕ → List ℕ
end_text run kept = last_text run.progress (end_of run.progress kept) run.lines run.refused

-- ---- the turns

-- where the program stands: its run, and the bytes that it keeps
pub record Stage : Type 0 where
  pub run : Run
  pub kept : List ℕ

-- the kept bytes stand at the front of the buffer
abbrev pub stage_in : Run → List ℕ → Stage
stage_in run buf = record { run = run; kept = part buf 0 run.kept }

abbrev pub first_stage : Stage
first_stage = record { run = first_run; kept = [] }

abbrev pub ended_stage : Stage → Stage
ended_stage stage = record { run = ended_run stage.run; kept = stage.kept }

abbrev pub stopped_stage : Stage
stopped_stage = record { run = stopped_run; kept = [] }

-- a block was read
abbrev pub next_stage : Stage → List ℕ → Stage
next_stage stage block = record {
  run = after_step stage.run (stage.kept ++ block);
  kept = kept_bytes stage.run.progress (stage.kept ++ block);
}

-- what it gives
abbrev pub next_text : Stage → List ℕ → List ℕ
next_text stage block = step_text stage.run.progress (stage.kept ++ block)

-- these blocks were read, one a turn: no more than are asked for
unfoldable pub stage_after : Stage → List (List ℕ) → Stage
stage_after stage [] = stage
stage_after stage (block ∷ blocks) = pick stage.run.more (stage_after (next_stage stage block) blocks) stage

-- the texts in turn, when read gives these blocks and then the end of the input: one a block, as long as more are asked
-- for, and then the end's
unfoldable pub texts : Stage → List (List ℕ) → List (List ℕ)
texts stage [] = end_text stage.run stage.kept ∷ []
texts stage (block ∷ blocks) =
    pick stage.run.more
    (next_text stage block ∷ texts (next_stage stage block) blocks)
    (end_text stage.run stage.kept ∷ [])

unfoldable pub printed : List (List ℕ) → List ℕ
printed blocks = joined (texts first_stage blocks)

-- ---- what the system's calls decide

-- how many bytes a read laid, as it answered
abbrev pub count_of : Option ℕ → ℕ
count_of None = 0
count_of (Some n) = n

-- the block: those bytes, behind the kept ones
abbrev pub block_in : Run → List ℕ → Option ℕ → List ℕ
block_in run buf answered = part buf run.kept (run.kept + count_of answered)

-- by what read answered: it failed; the input is at its end; it gave a block
abbrev pub by_read : {A : Type 0} → A → A → A → Option ℕ → A
by_read failed ended gave None = failed
by_read failed ended gave (Some zero) = ended
by_read failed ended gave (Some (suc n)) = gave

-- the stage after a turn
abbrev pub turn_stage : Stage → List ℕ → Option ℕ → Stage
turn_stage stage block answered = by_read stopped_stage (ended_stage stage) (next_stage stage block) answered

-- and what is printed in it
abbrev pub turn_text : Stage → List ℕ → Option ℕ → List ℕ
turn_text stage block answered = by_read [] [] (next_text stage block) answered

-- where the program can stand: it read some blocks, and perhaps came to the end of the input; or a call failed
pub data Reached (stage : Stage) : Type 0 where
  reading : (blocks : List (List ℕ)) → stage ≡ stage_after first_stage blocks → Reached stage
  done : (blocks : List (List ℕ)) → stage ≡ ended_stage (stage_after first_stage blocks) → Reached stage
  stopped : stage ≡ stopped_stage → Reached stage

-- what it may print, with the run to go on with: a turn's text, at a stage that asks for more; or the end's, and then
-- no more is asked for
pub data Prints (after : Run) (text : List ℕ) : Type 0 where
  turn : (stage : Stage) (block : List ℕ) (answered : Option ℕ) → Reached stage → stage.run.more ≡ true
      → after ≡ (turn_stage stage block answered).run → text ≡ turn_text stage block answered → Prints after text
  end : (stage : Stage) → Reached stage → after ≡ ended_run stage.run → text ≡ end_text stage.run stage.kept
      → Prints after text
