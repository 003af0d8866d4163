-- The loop over complete lines.
use Prim.Native.Nat.{ℕ, suc, ◌+◌, ◌-◌, ◌*◌, ◌≤◌}
use mathlib.Core.Path.{◌≡◌, refl, sym, ◌∙◌, ap}
use mathlib.Core.List.{List, [], ◌∷◌}
use native.Mathlib.Omega.{arith}
use native.Mathlib.Nat.{add_assoc, add-zero, zero-add}
use native.Mathlib.Numerals.{one-add}
use lib.ListN.{length, drop, length-append, length-drop}
use lib.Seq.{drop-drop}
use Rattle.bits.specs.Put.{put}
use Rattle.bits.proofs.PutLaws.{length-put}
use Rattle.text.proofs.PutLaws.{put-done}
use Rattle.text.proofs.LaidLaws.{put_next}
use Rattle.tlp.specs.declared.settings.Settings.{Settings}
use Rattle.tlp.specs.declared.refusal.Refusal.{Refusal}
use Rattle.tlp.specs.declared.packet.Packet.{Packet}
use Rattle.capture_lines.specs.Lines.{complete_lines, unended}
use Rattle.capture_print.specs.Outputs.{output_line}
use Rattle.capture_decode.specs.Decode.{Decoding, no_lines, line_step, line_read, refused_count, lines_decoded}
use Rattle.capture_decode.specs.Printed.{printed_each}
use Rattle.capture_decode.proofs.RoomLaws.{output-room}
use Rattle.capture_lines.proofs.LineLaws.{Following, following, unended-all}
use Rattle.capture_blocks.specs.Inner.Lines.{line_done, line_done_in, line_over, line_over_in, decoded_from, lines_from}
use Rattle.capture_blocks.specs.declared.lines.LineDone.{LineDone}
use Rattle.std.specs.Prelude.{Option, Some, None, Result, Ok, Err}
use Rattle.std.proofs.lemmas.Option.{none-some}
use Rattle.capture_blocks.specs.Inner.Rooms.{Room}
use Rattle.capture_blocks.specs.Inner.Steps.{silent_step}
use Rattle.capture_blocks.specs.declared.Progress.TheVariants.{Lines}
use Rattle.capture_blocks.specs.declared.Step.{Step}

-- what holds of the loop: what is still to come, laid behind what is printed, gives the whole
pub record Going (c : Settings) (bytes : List ℕ) (from : ℕ) (out₀ : List ℕ) (step : Step) (out : List ℕ) : Type 0 where
  pub progress : step.progress ≡ Lines c
  pub within : step.used ≤ length bytes
  pub room : Room step.written (length bytes - step.used) out
  pub size : length out ≡ length out₀
  pub output : put step.written (decoded_from c bytes step.used).output out ≡ put 0 (decoded_from c bytes from).output out₀
  pub written : step.written + length (decoded_from c bytes step.used).output ≡ length (decoded_from c bytes from).output
  pub counted : step.lines + (decoded_from c bytes step.used).lines ≡ (decoded_from c bytes from).lines
  pub refusals : step.refused + (decoded_from c bytes step.used).refused ≡ (decoded_from c bytes from).refused
  pub tail : unended (drop step.used bytes) ≡ unended (drop from bytes)
  pub few : step.lines ≤ step.used
  pub fewer : step.refused ≤ step.lines

-- ---- one line

module _ (c : Settings) (bytes : List ℕ) (place : ℕ) where
  decoded-none : complete_lines (drop place bytes) ≡ [] → decoded_from c bytes place ≡ no_lines
  unfolding decoded_from lines_decoded
  decoded-none e = rw e

  module _ (text : List ℕ) (texts : List (List ℕ)) (e : complete_lines (drop place bytes) ≡ text ∷ texts) where
    next_place : drop (place + suc (length text)) bytes ≡ drop (suc (length text)) (drop place bytes)
    next_place = sym (drop-drop (suc (length text)) place bytes)

    behind : Following (drop place bytes) (text ∷ texts)
    behind = following (drop place bytes) text texts e

    next-complete : complete_lines (drop (place + suc (length text)) bytes) ≡ texts
    next-complete = rw next_place behind.1.0

    next-unended : unended (drop (place + suc (length text)) bytes) ≡ unended (drop place bytes)
    next-unended = rw next_place behind.1.1

    next-within : place + suc (length text) ≤ length bytes
    next-within = omega (arith, behind.0, length-drop place bytes)

    decoded-some : decoded_from c bytes place ≡ line_step (line_read c text) (decoded_from c bytes (place + suc (length text)))
    unfolding decoded_from lines_decoded
    decoded-some = rw (e, next-complete)

pub refused-most : (a : Result Packet Refusal) → refused_count a ≤ 1
refused-most (Ok p) = omega arith
refused-most (Err r) = omega arith

some-is : (x y : LineDone) → Some x ≡ Some y → x ≡ y
some-is x y e = cc

-- ---- the loop

module _ (c : Settings) (bytes : List ℕ) (from : ℕ) (out₀ : List ℕ) where
  pub going_start : from ≤ length bytes → Room 0 (length bytes - from) out₀ → (step : Step) → step ≡ silent_step (Lines c) from → Going c bytes from out₀ step out₀
  going_start h r step e =
      rw e (record { progress = refl; within = h; room = r; size = refl; output = refl; written = zero-add _; counted = zero-add _; refusals = zero-add _; tail = refl; few = omega arith; fewer = omega arith })

  module _ (step : Step) (out : List ℕ) (g : Going c bytes from out₀ step out) where
    abbrev place : ℕ
    place = step.used

    abbrev at : ℕ
    at = step.written

    pub bound-room : Room at (length bytes - place) out₀
    bound-room = omega (arith, g.room, g.size)

    -- no complete line is left
    module _ (e : complete_lines (drop place bytes) ≡ []) where
      none_left : decoded_from c bytes place ≡ no_lines
      none_left = decoded-none c bytes place e

      done-used : place ≡ length bytes - length (unended (drop from bytes))
      done-used = rw (← g.tail, unended-all (drop place bytes) e, length-drop place bytes) (omega (arith, g.within))

      done-written : at ≡ length (decoded_from c bytes from).output
      done-written = sym (add-zero at) ∙ (ap (λ (d : Decoding). at + length d.output) (sym none_left) ∙ g.written)

      done-lines : step.lines ≡ (decoded_from c bytes from).lines
      done-lines = sym (add-zero step.lines) ∙ (ap (λ (d : Decoding). step.lines + d.lines) (sym none_left) ∙ g.counted)

      done_refused : step.refused ≡ (decoded_from c bytes from).refused
      done_refused = sym (add-zero step.refused) ∙ (ap (λ (d : Decoding). step.refused + d.refused) (sym none_left) ∙ g.refusals)

      done-step : step ≡ lines_from c bytes from
      unfolding lines_from
      done-step = rw (← done-used, ← done-written, ← done-lines, ← done_refused, ← g.progress)

      done-output : out ≡ put 0 (decoded_from c bytes from).output out₀
      done-output = sym (put-done at out) ∙ (ap (λ (d : Decoding). put at d.output out) (sym none_left) ∙ g.output)

    -- one more complete line
    module _ (text : List ℕ) (texts : List (List ℕ)) (e : complete_lines (drop place bytes) ≡ text ∷ texts) where
      fits : length (output_line (line_read c text)) ≤ printed_each * suc (length text)
      fits = output-room c text

      some_left : decoded_from c bytes place ≡ line_step (line_read c text) (decoded_from c bytes (place + suc (length text)))
      some_left = decoded-some c bytes place text texts e

      line-fits : at + length (output_line (line_read c text)) ≤ length out
      line-fits = omega (arith, g.room, fits, next-within c bytes place text texts e)

      abbrev rest : Decoding
      rest = decoded_from c bytes (place + suc (length text))

      next-going : Going c bytes from out₀ (record { progress = step.progress; used = place + suc (length text); written = at + length (output_line (line_read c text)); lines = step.lines + 1; refused = step.refused + refused_count (line_read c text) })
          (put at (output_line (line_read c text)) out)
      next-going = record {
        progress = g.progress;
        within = next-within c bytes place text texts e;
        room = rw (length-put at (output_line (line_read c text)) out line-fits) (omega (arith, g.room, fits, next-within c bytes place text texts e));
        size = length-put at (output_line (line_read c text)) out line-fits ∙ g.size;
        output = put_next at (output_line (line_read c text)) (decoded_from c bytes (place + suc (length text))).output out line-fits ∙ (ap (λ (d : Decoding). put at d.output out) (sym some_left) ∙ g.output);
        written = add_assoc at (length (output_line (line_read c text))) (length rest.output) ∙ (ap (λ (n : ℕ). at + n) (sym (length-append (output_line (line_read c text)) rest.output)) ∙ (ap (λ (d : Decoding). at + length d.output) (sym some_left) ∙ g.written));
        counted = add_assoc step.lines 1 rest.lines ∙ (ap (λ (n : ℕ). step.lines + n) (one-add rest.lines) ∙ (ap (λ (d : Decoding). step.lines + d.lines) (sym some_left) ∙ g.counted));
        refusals = add_assoc step.refused (refused_count (line_read c text)) rest.refused ∙ (ap (λ (d : Decoding). step.refused + d.refused) (sym some_left) ∙ g.refusals);
        tail = next-unended c bytes place text texts e ∙ g.tail;
        few = omega (arith, g.few);
        fewer = omega (arith, g.fewer, refused-most (line_read c text));
      }

    -- ---- by what one turn of the loop did

    module _ (o : Option LineDone) (next : List ℕ) (d : o ≡ line_done c bytes place at) (n : next ≡ line_over c bytes place at out) where
      done-by : (ls : List (List ℕ)) → complete_lines (drop place bytes) ≡ ls → o ≡ line_done_in c place at ls
      unfolding line_done
      done-by ls e = d ∙ ap (λ (x : List (List ℕ)). line_done_in c place at x) e

      over_by : (ls : List (List ℕ)) → complete_lines (drop place bytes) ≡ ls → next ≡ line_over_in c at ls out
      unfolding line_over
      over_by ls e = n ∙ ap (λ (x : List (List ℕ)). line_over_in c at x out) e

      module _ (h : o ≡ None) where
        none : (ls : List (List ℕ)) → complete_lines (drop place bytes) ≡ ls → complete_lines (drop place bytes) ≡ []
        none [] e = e
        none (text ∷ texts) e = absurd (none-some _ (sym h ∙ done-by (text ∷ texts) e))

        left : complete_lines (drop place bytes) ≡ []
        left = none (complete_lines (drop place bytes)) refl

        pub stop-step : step ≡ lines_from c bytes from
        stop-step = done-step left

        pub stop-output : next ≡ put 0 (decoded_from c bytes from).output out₀
        stop-output = over_by [] left ∙ done-output left

      module _ (line : LineDone) (h : o ≡ Some line) where
        went : (ls : List (List ℕ)) → complete_lines (drop place bytes) ≡ ls
            → Going c bytes from out₀ (record { progress = step.progress; used = line.end; written = line.written; lines = step.lines + 1; refused = step.refused + line.refused }) next
        went [] e = absurd (none-some line (sym (done-by [] e) ∙ h))
        went (text ∷ texts) e =
            let z : line ≡ record { end = place + suc (length text); written = at + length (output_line (line_read c text)); refused = refused_count (line_read c text) } = some-is _ _ (sym h ∙ done-by (text ∷ texts) e) in
            rw (z, over_by (text ∷ texts) e) (next-going text texts e)

        pub go_on : Going c bytes from out₀ (record { progress = step.progress; used = line.end; written = line.written; lines = step.lines + 1; refused = step.refused + line.refused }) next
        go_on = went (complete_lines (drop place bytes)) refl

pub ruleset loop-laws = (going_start, stop-step, stop-output, go_on, bound-room)
