-- What lay_step and lay_end lay and answer.
use Prim.Native.Nat.{ℕ, ◌+◌, ◌-◌, ◌*◌, ◌≤◌}
use mathlib.Core.Path.{◌≡◌, ap, ◌∙◌}
use mathlib.Core.List.{List}
use native.Mathlib.Omega.{arith}
use lib.ListN.{length, drop, length-take}
use Rattle.bits.specs.Put.{put}
use Rattle.text.specs.Laid.{laid, after}
use Rattle.text.specs.Words.{part}
use Rattle.text.specs.Buffer.{moved_to_front}
use Rattle.text.proofs.LaidLaws.{front-put}
use Rattle.text.proofs.BufferLaws.{front-moved}
use Rattle.capture_decode.specs.Printed.{printed_each}
use Rattle.capture_blocks.specs.Blocks.{step_of, end_of, totals_of, last_text}
use Rattle.capture_blocks.specs.Answers.{step_in, ending, step_answer, step_over, end_answer, end_over}
use Rattle.capture_blocks.specs.declared.Step.{Step}
use Rattle.std.specs.Prelude.{Result, Ok, Err}
use Rattle.tlp.specs.declared.refusal.Refusal.{Refusal}
use Rattle.capture_blocks.proofs.StepBounds.{step-bounded, block-step, block-used, block_within, block_refused, end_step, end-lines, end_refused}
use Rattle.capture_blocks.proofs.RoomAnswers.{never-refused, block-answer, block-output, end-answer, last_most, last-length, last-laid}
use Rattle.decode.specs.Turns.{advanced_run, after_step, kept_bytes, step_text, end_text}
use Rattle.decode.specs.Inner.Sizes.{input_room, output_room, Counted}
use Rattle.decode.specs.declared.run.Run.{Run}

-- ---- how large the numbers get

pub size_of : (buf : List ℕ) (n : ℕ) → n ≤ length buf → length (part buf 0 n) ≡ n
size_of buf n h = simp length-take (omega (arith, h))

pub after-counted : (run : Run) (bytes : List ℕ) (most : ℕ) → Counted most run → length bytes ≤ input_room → Counted (run.lines + input_room) (after_step run bytes)
unfolding after_step
after-counted run bytes most g few =
    let b = step-bounded run.progress bytes in
    record { kept = b.short; lines = omega (arith, few, b.few); refused = omega (arith, b.fewer, g.refused) }

-- ---- lay_step

module _ (run : Run) (buf out : List ℕ) (n : ℕ) (h : n ≤ length buf) (few : n ≤ input_room) (room : length out ≡ output_room) (r : Result Step Refusal) (d : r ≡ step_answer run.progress (part buf 0 n) out) where
  abbrev bytes : List ℕ
  bytes = part buf 0 n

  size : length bytes ≡ n
  size = size_of buf n h

  fits : printed_each * length bytes ≤ length out
  fits = omega (arith, size, few, room)

  -- there is room
  pub step-never : (refusal : Refusal) → r ≡ Err refusal → ⊥
  step-never = never-refused r (step_in (step_of run.progress bytes) (length bytes)) (d ∙ block-answer run.progress bytes out fits)

  module _ (step : Step) (u : r ≡ Ok step) where
    stepped : step ≡ step_in (step_of run.progress bytes) (length bytes)
    stepped = block-step run.progress bytes out r d step u

    pub step-used : step.used ≤ n
    step-used = omega (arith, size, block-used run.progress bytes out r d step u)

    pub step-few : step.lines ≤ input_room
    step-few = omega (arith, few, step-used, block_within run.progress bytes out r d step u)

    left : n - step.used ≡ (step_of run.progress bytes).left
    left = rw stepped (omega (arith, size, (step-bounded run.progress bytes).inside))

    pub step-text : (out1 : List ℕ) → out1 ≡ step_over run.progress bytes out → part out1 0 step.written ≡ step_text run.progress bytes
    unfolding step_text
    step-text out1 o = rw (o, block-output run.progress bytes out fits, stepped) (front-put (step_of run.progress bytes).decoding.output out)

    module _ (after : Run) (a : after ≡ advanced_run run step.progress (n - step.used) step.lines step.refused) where
      pub step_run : after ≡ after_step run bytes
      unfolding after_step
      step_run = a ∙ rw (left, stepped)

      pub step_kept : (buf1 : List ℕ) → buf1 ≡ moved_to_front step.used n buf → part buf1 0 after.kept ≡ kept_bytes run.progress bytes
      unfolding kept_bytes
      step_kept buf1 m =
          let e : after.kept ≡ n - step.used = ap (λ (x : Run). x.kept) a in
          let k : step.used ≡ length bytes - (step_of run.progress bytes).left = ap (λ (x : Step). x.used) stepped in
          rw (e, m) (front-moved step.used n buf step-used h) ∙ ap (λ (i : ℕ). drop i bytes) k

pub ruleset step-laws = (step-never, step-used, step-few, block_refused, step-text, step_run, step_kept)

-- ---- lay_end

module _ (run : Run) (rest out : List ℕ) (room : length out ≡ output_room) (r : Result Step Refusal) (d : r ≡ end_answer run.progress rest out) where
  -- there is room
  pub end-never : (refusal : Refusal) → r ≡ Err refusal → ⊥
  end-never = never-refused r (step_in (ending run.progress rest) (length rest)) (d ∙ end-answer run.progress rest out (omega (arith, room)))

  module _ (step : Step) (u : r ≡ Ok step) where
    pub end-few : step.lines ≤ input_room
    end-few = omega (arith, end-lines run.progress rest out r d step u)

    pub end-text : (last : Run) → last ≡ advanced_run run step.progress 0 step.lines step.refused → (out1 : List ℕ) → out1 ≡ end_over run.progress rest out
        → (written : ℕ) → written ≡ after step.written (totals_of run.progress last.lines last.refused) out1
        → (out2 : List ℕ) → out2 ≡ laid step.written (totals_of run.progress last.lines last.refused) out1
        → part out2 0 written ≡ end_text run rest
    unfolding end_text
    end-text last a out1 o written w out2 f =
        let text = last_text run.progress (end_of run.progress rest) run.lines run.refused in
        let l : last.lines ≡ run.lines + step.lines = ap (λ (x : Run). x.lines) a in
        let b : last.refused ≡ run.refused + step.refused = ap (λ (x : Run). x.refused) a in
        let fits : last_most ≤ length out = omega (arith, room) in
        let stepped = end_step run.progress rest out r d step u in
        let n : written ≡ length text = last-length run.progress rest out fits step stepped out1 o run.lines run.refused last.lines last.refused l b written w in
        let m : out2 ≡ put 0 text out = last-laid run.progress rest out fits step stepped out1 o run.lines run.refused last.lines last.refused l b out2 f in
        rw (n, m) (front-put text out)

pub ruleset end-laws = (end-never, end-few, end_refused, end-text)
