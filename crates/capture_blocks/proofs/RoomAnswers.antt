-- What the calls answer and lay where there is room: what a caller that lends enough has to know.
use Prim.Native.Nat.{ℕ, ◌+◌, ◌*◌, ◌/◌, ◌≤◌}
use mathlib.Core.Path.{◌≡◌, refl, sym, ap, ◌∙◌}
use mathlib.Core.Bool.{Bool, true, false}
use mathlib.Core.List.{List, [], ◌∷◌, append-nil}
use native.Mathlib.Nat.{zero-add}
use native.Mathlib.Omega.{arith}
use lib.ListN.{length, length-append}
use Rattle.bits.specs.Choice.{pick}
use Rattle.bits.specs.Put.{put}
use Rattle.bits.proofs.PutLaws.{length-put}
use Rattle.text.specs.Laid.{laid, after}
use Rattle.text.proofs.LaidLaws.{put_next, after-fits, laid-fits}
use Rattle.tlp.specs.declared.refusal.Refusal.{Refusal}
use Rattle.std.specs.Prelude.{Result, Ok, Err}
use Rattle.capture_print.specs.Outputs.{code_line, output_line, totals_line}
use Rattle.capture_print.proofs.PrintLaws.{code-11, code-13, totals-most}
use Rattle.capture_decode.specs.Decode.{tail_decoded}
use Rattle.capture_decode.specs.Printed.{printed_each}
use Rattle.capture_blocks.specs.Blocks.{step_of, end_of, totals_follow, totals_of, last_text}
use Rattle.capture_blocks.specs.Answers.{step_in, ending, step_answer, step_over, end_answer, end_over}
use Rattle.capture_blocks.specs.declared.Progress.{Progress}
use Rattle.capture_blocks.specs.declared.Progress.TheVariants.{First, Lines, Skipping, Refused}
use Rattle.capture_blocks.specs.declared.Step.{Step}
use Rattle.capture_blocks.proofs.CallReturns.{step-done, step-done-output, end-done, end-done-output}

-- ---- an answer that is a step

pub never-refused : (r : Result Step Refusal) (step : Step) → r ≡ Ok step → (refusal : Refusal) → r ≡ Err refusal → ⊥
never-refused r step e refusal u = let z : ◌≡◌ {A = ℕ} 0 1 = cc in omega arith

-- ---- decode_block

module _ (p : Progress) (bytes out : List ℕ) (room : printed_each * length bytes ≤ length out) where
  fits : length bytes ≤ length out / 8
  fits = omega (arith, room)

  pub block-answer : step_answer p bytes out ≡ Ok (step_in (step_of p bytes) (length bytes))
  block-answer = sym (step-done p bytes out fits (step_in (step_of p bytes) (length bytes)) refl)

  pub block-output : step_over p bytes out ≡ put 0 (step_of p bytes).decoding.output out
  block-output = sym (step-done-output p bytes out fits (put 0 (step_of p bytes).decoding.output out) refl)

-- ---- decode_end

module _ (p : Progress) (rest out : List ℕ) (room : printed_each ≤ length out) where
  pub end-answer : end_answer p rest out ≡ Ok (step_in (ending p rest) (length rest))
  end-answer = sym (end-done p rest out room (step_in (ending p rest) (length rest)) refl)

  pub end-output : end_over p rest out ≡ put 0 (end_of p rest).output out
  end-output = sym (end-done-output p rest out room (put 0 (end_of p rest).output out) refl)

-- ---- the end of the input with the totals: how long it is at most

abbrev totals_most : ℕ
totals_most = 144

abbrev pub last_most : ℕ
last_most = printed_each + totals_most

tail-most : (rest : List ℕ) → length (tail_decoded rest).output ≤ printed_each
unfolding tail_decoded output_line
tail-most [] = omega arith
tail-most (b ∷ rest) = rw (append-nil (code_line 13)) (omega (arith, code-13))

end-most : (p : Progress) (rest : List ℕ) → length (end_of p rest).output ≤ printed_each
unfolding end_of
end-most First rest = omega (arith, code-11)
end-most (Lines settings) rest = tail-most rest
end-most (Skipping settings) rest = omega arith
end-most Refused rest = omega arith

totals-by : (t : Bool) (lines refused : ℕ) → length (pick t (totals_line lines refused) []) ≤ totals_most
totals-by true lines refused = totals-most lines refused
totals-by false lines refused = omega arith

-- ---- decode_end, and put_totals_of behind it

module _ (p : Progress) (rest out : List ℕ) (room : last_most ≤ length out) (step : Step) (e : step ≡ step_in (ending p rest) (length rest)) (out1 : List ℕ) (o : out1 ≡ end_over p rest out)
    (lines refused all bad : ℕ) (l : all ≡ lines + step.lines) (b : bad ≡ refused + step.refused) where
  abbrev text : List ℕ
  text = (end_of p rest).output

  abbrev totals : List ℕ
  totals = totals_of p (lines + (end_of p rest).lines) (refused + (end_of p rest).refused)

  text-fits : 0 + length text ≤ length out
  text-fits = omega (arith, room, end-most p rest)

  laid-first : out1 ≡ put 0 text out
  laid-first = o ∙ end-output p rest out (omega (arith, room))

  totals-fit : length text + length totals ≤ length out1
  totals-fit =
      rw (laid-first, length-put 0 text out text-fits)
      (omega (arith, room, end-most p rest, totals-by (totals_follow p) (lines + (end_of p rest).lines) (refused + (end_of p rest).refused)))

  totals-are : totals_of p all bad ≡ totals
  totals-are = rw (l, b, e)

  pub last-length : (r : ℕ) → r ≡ after step.written (totals_of p all bad) out1 → r ≡ length (last_text p (end_of p rest) lines refused)
  unfolding last_text
  last-length r d = d ∙ rw (totals-are, e, after-fits (length text) totals out1 totals-fit) (sym (length-append text totals))

  pub last-laid : (out2 : List ℕ) → out2 ≡ laid step.written (totals_of p all bad) out1 → out2 ≡ put 0 (last_text p (end_of p rest) lines refused) out
  unfolding last_text
  last-laid out2 d =
      d ∙ rw (totals-are, e, laid-fits (length text) totals out1 totals-fit, laid-first)
      (ap (λ (n : ℕ). put n totals (put 0 text out)) (sym (zero-add (length text))) ∙ put_next 0 text totals out text-fits)
