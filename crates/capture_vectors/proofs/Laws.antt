-- The sums over the steps of a capture of at most 70,000 bytes.
use Prim.Native.Nat.{ℕ, ◌+◌, ◌^◌, ◌≤◌, ◌<◌}
use mathlib.Core.Path.{◌≡◌}
use mathlib.Core.List.{List}
use native.Mathlib.Omega.{arith}
use lib.ListN.{length}
use Rattle.capture_blocks.specs.Answers.{step_answer, end_answer}
use Rattle.capture_blocks.specs.declared.Progress.{Progress}
use Rattle.capture_blocks.specs.declared.Step.{Step}
use Rattle.std.specs.Prelude.{Result, Ok}
use Rattle.tlp.specs.declared.refusal.Refusal.{Refusal}
use Rattle.capture_blocks.proofs.StepBounds.{block-used, block_within, block_refused, end-lines, end_refused}
use Rattle.capture_vectors.specs.Inner.Sizes.{input_room}

-- ---- a step

pub step_room : (p : Progress) (bytes out : List ℕ) (r : Result Step Refusal) → r ≡ step_answer p bytes out → (step : Step) → r ≡ Ok step
    → (used : ℕ) → used + length bytes ≤ input_room → used + step.used ≤ input_room
step_room p bytes out r d step u used h = omega (arith, h, block-used p bytes out r d step u)

pub step-used : (used sum : ℕ) (step : Step) → sum ≡ used + step.used → (r : Result Step Refusal) → r ≡ Ok step → (p : Progress) (bytes out : List ℕ) → r ≡ step_answer p bytes out
    → sum ≤ used + length bytes
step-used used sum step e r u p bytes out d = omega (arith, e, block-used p bytes out r d step u)

pub ruleset step-laws = (step_room, step-used, block_within, block_refused)

-- ---- the end

module _ (p : Progress) (rest out : List ℕ) (r : Result Step Refusal) (d : r ≡ end_answer p rest out) (step : Step) (u : r ≡ Ok step) (used lines refused : ℕ) (a : used ≤ input_room) (b : lines ≤ used) (c : refused ≤ lines) where
  pub last-lines : lines + step.lines < 2 ^ 64
  last-lines = omega (arith, a, b, end-lines p rest out r d step u)

  pub last-refused : refused + step.refused < 2 ^ 64
  last-refused = omega (arith, a, b, c, end-lines p rest out r d step u, end_refused p rest out r d step u)

pub ruleset end-laws = (last-lines, last-refused)
