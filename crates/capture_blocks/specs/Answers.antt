-- What decode_block and decode_end answer, and the output afterwards: what a reader must believe, by step_answer,
-- step_over, end_answer and end_over. The steps themselves are in Blocks.
use Rattle.std.specs.Prelude.{ℕ, ◌-◌, ◌*◌, Bool, true, false, List, leb, length, Result, Ok, Err}
use Rattle.bits.specs.Put.{put}
use Rattle.tlp.specs.declared.refusal.Refusal.{Refusal}
use Rattle.tlp.specs.declared.refusal.Refusal.TheVariants.{OutputTooShort}
use Rattle.capture_decode.specs.Printed.{printed_each}
use Rattle.capture_blocks.specs.Blocks.{Stepping, step_of, end_of}
use Rattle.capture_blocks.specs.declared.Progress.{Progress}
use Rattle.capture_blocks.specs.declared.Step.{Step}

-- ---- a step

-- a stepping's numbers, for a step over so many bytes
abbrev pub step_in : Stepping → ℕ → Step
step_in stepping size = record {
  progress = stepping.progress;
  used = size - stepping.left;
  written = length stepping.decoding.output;
  lines = stepping.decoding.lines;
  refused = stepping.decoding.refused;
}

-- for the most that so many bytes of lines print
abbrev pub has_room : ℕ → List ℕ → Bool
has_room size out = leb (printed_each * size) (length out)

-- the output is too short where there might not be room
abbrev pub answer_in : Stepping → ℕ → Bool → Result Step Refusal
answer_in stepping size true = Ok (step_in stepping size)
answer_in stepping size false = Err OutputTooShort

abbrev pub laid_in : Stepping → Bool → List ℕ → List ℕ
laid_in stepping true out = put 0 stepping.decoding.output out
laid_in stepping false out = out

unfoldable pub step_answer : Progress → List ℕ → List ℕ → Result Step Refusal
step_answer p bytes out = answer_in (step_of p bytes) (length bytes) (has_room (length bytes) out)

unfoldable pub step_over : Progress → List ℕ → List ℕ → List ℕ
step_over p bytes out = laid_in (step_of p bytes) (has_room (length bytes) out) out

-- ---- the end of the input

abbrev pub ending : Progress → List ℕ → Stepping
ending p rest = record { progress = p; decoding = end_of p rest; left = 0 }

unfoldable pub end_answer : Progress → List ℕ → List ℕ → Result Step Refusal
end_answer p rest out = answer_in (ending p rest) (length rest) (has_room 1 out)

unfoldable pub end_over : Progress → List ℕ → List ℕ → List ℕ
end_over p rest out = laid_in (ending p rest) (has_room 1 out) out
