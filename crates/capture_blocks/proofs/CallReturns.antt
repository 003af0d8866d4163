-- What the public calls answer, return by return.
use Prim.Native.Nat.{ℕ, ◌*◌, ◌/◌, ◌≤◌, ◌<◌}
use mathlib.Core.Path.{◌≡◌, refl, sym, ◌∙◌, ap}
use mathlib.Core.Bool.{Bool, true, false}
use mathlib.Core.Logic.{◌⊎◌, ⊎_elim}
use lib.Dec.{eqb}
use Rattle.tlp.specs.declared.refusal.Refusal.TheVariants.{OutputTooShort}
use Rattle.std.specs.Prelude.{Ok, Err}
use Rattle.capture_blocks.specs.Inner.Steps.{silent_step, number_step}
use mathlib.Core.List.{List, [], ◌∷◌, append-nil}
use native.Mathlib.Omega.{arith}
use lib.ListN.{length}
use borrow.Author.Tests.{eqb-true, eqb-false, le-leb, lt-leb}
use Rattle.bits.specs.Put.{put}
use Rattle.text.specs.Laid.{laid, after}
use Rattle.text.proofs.PutLaws.{put-done}
use Rattle.text.proofs.LaidLaws.{after_nothing, laid-nothing}
use Rattle.tlp.specs.declared.settings.Settings.{Settings}
use Rattle.capture_print.specs.Outputs.{code_line, output_line}
use Rattle.capture_decode.specs.Decode.{Decoding, no_lines, tail_decoded}
use Rattle.capture_decode.specs.Printed.{printed_each}
use Rattle.capture_blocks.specs.Blocks.{Stepping, step_of, end_of, totals_follow, totals_of}
use Rattle.capture_blocks.specs.Answers.{step_in, has_room, step_answer, step_over, ending, end_answer, end_over}
use Rattle.capture_blocks.specs.Inner.Rooms.{Room}
use Rattle.capture_blocks.specs.declared.Progress.{Progress}
use Rattle.capture_blocks.specs.declared.Progress.TheVariants.{First, Lines, Skipping, Refused}
use Rattle.capture_blocks.specs.declared.Step.{Step}
use Rattle.capture_blocks.proofs.StepReturns.{silent-step, number_step_lem, number-output}

-- ---- step_within: after a bad line one

module _ (p : Progress) (bytes out : List ℕ) (u : p ≡ Refused) where
  pub within-refused : (r : Step) → r ≡ silent_step p (length bytes) → r ≡ step_in (step_of p bytes) (length bytes)
  unfolding step_of
  within-refused r d = d ∙ (silent-step p (length bytes) ∙ rw u)

  pub within-refused-output : out ≡ put 0 (step_of p bytes).decoding.output out
  unfolding step_of
  within-refused-output = rw u (sym (put-done 0 out))

pub ruleset within_laws = (within-refused, within-refused-output)

-- ---- decode_block

module _ (p : Progress) (bytes out : List ℕ) where
  module _ (h : length out / 8 < length bytes) where
    no_room : has_room (length bytes) out ≡ false
    no_room = lt-leb (printed_each * length bytes) (length out) (omega (arith, h))

    pub step-short : Err OutputTooShort ≡ step_answer p bytes out
    unfolding step_answer
    step-short = rw no_room

    pub step-short-output : out ≡ step_over p bytes out
    unfolding step_over
    step-short-output = rw no_room

  module _ (h : length bytes ≤ length out / 8) where
    pub step_room : Room 0 (length bytes) out
    step_room = omega (arith, h)

    step_fits : printed_each * length bytes ≤ length out
    step_fits = omega (arith, h)

    pub step-done : (step : Step) → step ≡ step_in (step_of p bytes) (length bytes) → Ok step ≡ step_answer p bytes out
    unfolding step_answer
    step-done step e = rw (le-leb (printed_each * length bytes) (length out) step_fits, e)

    pub step-done-output : (out1 : List ℕ) → out1 ≡ put 0 (step_of p bytes).decoding.output out → out1 ≡ step_over p bytes out
    unfolding step_over
    step-done-output out1 e = e ∙ rw (le-leb (printed_each * length bytes) (length out) step_fits)

pub ruleset step-answers = (step-short, step-short-output, step-done, step-done-output)

-- ---- the end of the input

module _ (p : Progress) (rest out : List ℕ) where
  abbrev last : Stepping
  last = ending p rest

  -- nothing is printed
  module _ (z : end_of p rest ≡ no_lines) where
    pub end-silent : (r : Step) → r ≡ silent_step p (length rest) → r ≡ step_in last (length rest)
    end-silent r d = d ∙ (silent-step p (length rest) ∙ ap (λ (y : Decoding). step_in (record { progress = p; decoding = y; left = 0 }) (length rest)) (sym z))

    pub end-silent-output : out ≡ put 0 (end_of p rest).output out
    end-silent-output = sym (put-done 0 out) ∙ ap (λ (y : Decoding). put 0 y.output out) (sym z)

  -- a number alone
  module _ (room : Room 0 1 out) (n : ℕ) (e : length (code_line n) ≡ 8) (k : ℕ) (z : end_of p rest ≡ record { output = code_line n; lines = k; refused = k }) where
    h : printed_each ≤ length out
    h = omega (arith, room)

    pub end-number : (r : Step) → r ≡ number_step p (length rest) n k out → r ≡ step_in last (length rest)
    end-number r d = number_step_lem p (length rest) n k out h e r d ∙ ap (λ (w : Decoding). step_in (record { progress = p; decoding = w; left = 0 }) (length rest)) (sym z)

    pub end-number-output : (out1 : List ℕ) → out1 ≡ laid 0 (code_line n) out → out1 ≡ put 0 (end_of p rest).output out
    end-number-output out1 d = number-output p (length rest) n k out h e out1 d ∙ ap (λ (w : Decoding). put 0 w.output out) (sym z)

  pub first-end : p ≡ First → end_of p rest ≡ record { output = code_line 11; lines = 0; refused = 0 }
  unfolding end_of
  first-end u = rw u

  tail-empty : (tail : List ℕ) → length tail ≡ 0 → tail_decoded tail ≡ no_lines
  unfolding tail_decoded
  tail-empty [] e = refl
  tail-empty (b ∷ tail) e = absurd (omega (arith, e))

  tail-bad : (tail : List ℕ) → (length tail ≡ 0 → ⊥) → tail_decoded tail ≡ record { output = code_line 13; lines = 1; refused = 1 }
  unfolding tail_decoded output_line
  tail-bad [] e = absurd (e refl)
  tail-bad (b ∷ tail) e = rw (append-nil (code_line 13))

  module _ (c : Settings) (u : p ≡ Lines c) (b : Bool) (q : b ≡ eqb (length rest) 0) where
    pub complete-end : b ≡ true → end_of p rest ≡ no_lines
    unfolding end_of
    complete-end h = rw u (tail-empty rest (eqb-true (length rest) 0 (sym q ∙ h)))

    pub unended-end : b ≡ false → end_of p rest ≡ record { output = code_line 13; lines = 1; refused = 1 }
    unfolding end_of
    unended-end h = rw u (tail-bad rest (eqb-false (length rest) 0 (sym q ∙ h)))

  pub no-end : ((c : Settings) × (p ≡ Skipping c)) ⊎ (p ≡ Refused) → end_of p rest ≡ no_lines
  unfolding end_of
  no-end u = ⊎_elim (λ (e : (c : Settings) × (p ≡ Skipping c)). rw e.1) (λ (e : p ≡ Refused). rw e) u

-- ---- decode_end

module _ (p : Progress) (rest out : List ℕ) where
  module _ (h : length out < printed_each) where
    pub end_short : Err OutputTooShort ≡ end_answer p rest out
    unfolding end_answer
    end_short = rw (lt-leb (printed_each * 1) (length out) (omega (arith, h)))

    pub end-short-output : out ≡ end_over p rest out
    unfolding end_over
    end-short-output = rw (lt-leb (printed_each * 1) (length out) (omega (arith, h)))

  module _ (h : printed_each ≤ length out) where
    pub end-done : (step : Step) → step ≡ step_in (ending p rest) (length rest) → Ok step ≡ end_answer p rest out
    unfolding end_answer
    end-done step e = rw (le-leb (printed_each * 1) (length out) (omega (arith, h)), e)

    pub end-done-output : (out1 : List ℕ) → out1 ≡ put 0 (end_of p rest).output out → out1 ≡ end_over p rest out
    unfolding end_over
    end-done-output out1 e = e ∙ rw (le-leb (printed_each * 1) (length out) (omega (arith, h)))

pub ruleset end-answers = (end_short, end-short-output, end-done, end-done-output)

-- ---- put_totals_of, where no totals follow

module _ (p : Progress) (lines refused at : ℕ) (out : List ℕ) (b : Bool) (e : b ≡ totals_follow p) (h : b ≡ false) where
  pub no-totals : at ≡ after at (totals_of p lines refused) out
  no-totals = after_nothing at out ∙ rw (← e, h)

  pub no-totals-output : out ≡ laid at (totals_of p lines refused) out
  no-totals-output = laid-nothing at out ∙ rw (← e, h)

pub ruleset totals_laws = (no-totals, no-totals-output)
