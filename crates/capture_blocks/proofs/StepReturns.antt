-- What each step comes to, return by return.
use Prim.Native.Nat.{ℕ, ◌+◌, ◌-◌, ◌≤◌, ◌<◌}
use mathlib.Core.Path.{◌≡◌, sym, ◌∙◌, ap}
use mathlib.Core.Bool.{true, false}
use mathlib.Core.Logic.{◌⊎◌, ⊎_elim, inl, inr}
use Rattle.tlp.specs.Refusals.{number}
use Rattle.tlp.specs.declared.refusal.Refusal.TheVariants.{BadLine}
use Rattle.capture_blocks.specs.Inner.Steps.{silent_step, number_step}
use mathlib.Core.List.{List, [], ◌++◌, append-nil}
use native.Mathlib.Nat.{zero-add, sub-zero, sub_self}
use native.Mathlib.Omega.{arith}
use lib.ListN.{length, take, drop, length-append, length-drop}
use borrow.Author.Tests.{lt-ltb, le-ltb}
use Rattle.bits.specs.Put.{put}
use Rattle.bits.proofs.PutLaws.{length-put}
use Rattle.text.specs.Laid.{laid, after}
use Rattle.text.proofs.PutLaws.{put-done}
use Rattle.text.proofs.LaidLaws.{put_next, after-fits, laid-fits}
use Rattle.tlp.specs.declared.settings.Settings.{Settings}
use Rattle.capture_lines.specs.Lines.{text_most, over_long, complete_lines, unended, next_line}
use Rattle.capture_print.specs.Outputs.{code_line, output_line}
use Rattle.capture.specs.Headers.{header_line}
use Rattle.capture_decode.specs.Decode.{no_lines, line_step, header_read}
use Rattle.capture_decode.specs.Printed.{printed_each}
use Rattle.capture_lines.specs.declared.NextLine.{NextLine}
use Rattle.capture_lines.specs.declared.NextLine.TheVariants.{Ended, OverLong, Unended}
use Rattle.capture.specs.declared.header.Header.{Header}
use Rattle.std.specs.Prelude.{Option, Some, None, Err}
use Rattle.capture_print.proofs.PrintLaws.{code-11, code-13}
use Rattle.capture_lines.proofs.LineLaws.{unended-le, unended-all}
use Rattle.capture_lines.proofs.NextLaws.{Complete, unended-line, ended-line, over-long-line}
use Rattle.capture_blocks.specs.Blocks.{Stepping, header_refused, step_lines, step_header, step_first, step_skipping}
use Rattle.capture_blocks.specs.Answers.{step_in}
use Rattle.capture_blocks.specs.Inner.Lines.{decoded_from, lines_from}
use Rattle.capture_blocks.specs.declared.Progress.{Progress}
use Rattle.capture_blocks.specs.declared.Progress.TheVariants.{First, Skipping, Refused}
use Rattle.capture_blocks.specs.declared.Step.{Step}
use Rattle.capture_blocks.specs.Inner.Rooms.{Room}
use Rattle.capture_blocks.proofs.DecodingLaws.{then, none_then, lines_then}

-- ---- step_lines

module _ (c : Settings) (bytes : List ℕ) (from : ℕ) (out out1 : List ℕ) (t : Step) (e : t ≡ lines_from c bytes from) (o : out1 ≡ put 0 (decoded_from c bytes from).output out) where
  abbrev tail : List ℕ
  tail = unended (drop from bytes)

  abbrev texts : List (List ℕ)
  texts = complete_lines (drop from bytes)

  tail-size : length bytes - t.used ≡ length tail
  unfolding lines_from
  tail-size = rw e (omega (arith, unended-le (drop from bytes), length-drop from bytes))

  module _ (h : length bytes - t.used ≤ text_most) where
    short-tail : over_long tail ≡ false
    unfolding over_long
    short-tail = le-ltb text_most (length tail) (omega (arith, h, tail-size))

    pub lines_left : t ≡ step_in (step_lines c texts tail) (length bytes)
    unfolding step_lines lines_from decoded_from
    lines_left = rw (short-tail, e)

    pub output-left : out1 ≡ put 0 (step_lines c texts tail).decoding.output out
    unfolding step_lines decoded_from
    output-left = rw (short-tail, o)

  module _ (h : text_most < length bytes - t.used) (room : Room t.written (length bytes - t.used) out) where
    long-tail : over_long tail ≡ true
    unfolding over_long
    long-tail = lt-ltb text_most (length tail) (omega (arith, h, tail-size))

    -- the bad line behind what was decoded
    decoded-long : step_lines c texts tail ≡ record { progress = Skipping c; decoding = then (decoded_from c bytes from) (line_step (Err BadLine) no_lines); left = 0 }
    unfolding step_lines decoded_from
    decoded-long = rw (long-tail, ← lines_then c texts no_lines (line_step (Err BadLine) no_lines), none_then (line_step (Err BadLine) no_lines))

    abbrev decoded : List ℕ
    decoded = (decoded_from c bytes from).output

    done : length decoded ≡ t.written
    unfolding lines_from
    done = rw e

    decoded-fits : 0 + length decoded ≤ length out
    decoded-fits = omega (arith, room, done)

    code_fits : length decoded + length (code_line 13) ≤ length out1
    code_fits = rw (o, length-put 0 decoded out decoded-fits) (omega (arith, room, h, done, code-13))

    bad-output : output_line (Err BadLine) ++ [] ≡ code_line 13
    unfolding output_line
    bad-output = append-nil (code_line 13)

    all-output : (step_lines c texts tail).decoding.output ≡ decoded ++ code_line 13
    all-output = ap (λ (x : Stepping). x.decoding.output) decoded-long ∙ ap (λ (x : List ℕ). decoded ++ x) bad-output

    lines-skipped-13 : (w : ℕ) → w ≡ after t.written (code_line 13) out1
        → record { progress = Skipping c; used = length bytes; written = w; lines = t.lines + 1; refused = t.refused + 1 } ≡ step_in (step_lines c texts tail) (length bytes)
    lines-skipped-13 w k =
        let n : w ≡ length (decoded ++ code_line 13) = k ∙ (rw (← done, after-fits (length decoded) (code_line 13) out1 code_fits) (sym (length-append decoded (code_line 13)))) in
        let x : t.lines ≡ (decoded_from c bytes from).lines = unfold lines_from in ap (λ (y : Step). y.lines) e in
        let y : t.refused ≡ (decoded_from c bytes from).refused = unfold lines_from in ap (λ (z : Step). z.refused) e in
        let z : record { progress = Skipping c; used = length bytes; written = w; lines = t.lines + 1; refused = t.refused + 1 } ≡ step_in (record { progress = Skipping c; decoding = then (decoded_from c bytes from) (line_step (Err BadLine) no_lines); left = 0 }) (length bytes) = rw (n, x, y, sub-zero (length bytes), bad-output) in
        z ∙ ap (λ (q : Stepping). step_in q (length bytes)) (sym decoded-long)

    output-skipped-13 : (out2 : List ℕ) → out2 ≡ laid t.written (code_line 13) out1 → out2 ≡ put 0 (step_lines c texts tail).decoding.output out
    output-skipped-13 out2 k =
        k ∙ (rw (← done, laid-fits (length decoded) (code_line 13) out1 code_fits, o, all-output) (ap (λ (n : ℕ). put n (code_line 13) (put 0 decoded out)) (sym (zero-add (length decoded))) ∙ put_next 0 decoded (code_line 13) out decoded-fits))

    module _ (n : ℕ) (is13 : n ≡ number BadLine) where
      pub lines-skipped : (w : ℕ) → w ≡ after t.written (code_line n) out1
          → record { progress = Skipping c; used = length bytes; written = w; lines = t.lines + 1; refused = t.refused + 1 } ≡ step_in (step_lines c texts tail) (length bytes)
      lines-skipped w k = lines-skipped-13 w (rw is13 at k)

      pub output-skipped : (out2 : List ℕ) → out2 ≡ laid t.written (code_line n) out1 → out2 ≡ put 0 (step_lines c texts tail).decoding.output out
      output-skipped out2 k = output-skipped-13 out2 (rw is13 at k)

pub ruleset step-lines-laws = (lines_left, output-left, lines-skipped, output-skipped)

-- ---- a number alone

module _ (p : Progress) (size n k : ℕ) (out : List ℕ) (h : printed_each ≤ length out) (e : length (code_line n) ≡ 8) where
  number-room : 0 + length (code_line n) ≤ length out
  number-room = omega (arith, h, e)

  pub number_step_lem : (r : Step) → r ≡ record { progress = p; used = size; written = after 0 (code_line n) out; lines = k; refused = k }
      → r ≡ step_in (record { progress = p; decoding = record { output = code_line n; lines = k; refused = k }; left = 0 }) size
  number_step_lem r d = d ∙ rw (after-fits 0 (code_line n) out number-room, zero-add (length (code_line n)), sub-zero size)

  pub number-output : (out1 : List ℕ) → out1 ≡ laid 0 (code_line n) out → out1 ≡ put 0 (code_line n) out
  number-output out1 d = d ∙ laid-fits 0 (code_line n) out number-room

-- ---- refuse_header

module _ (size : ℕ) (out : List ℕ) (room : Room 0 1 out) where
  eight : printed_each ≤ length out
  eight = omega (arith, room)

  pub refused-step : (r : Step) → r ≡ number_step Refused size 11 0 out → r ≡ step_in header_refused size
  refused-step r d = number_step_lem Refused size 11 0 out eight code-11 r d

  pub refused-output : (out1 : List ℕ) → out1 ≡ laid 0 (code_line 11) out → out1 ≡ put 0 header_refused.decoding.output out
  refused-output out1 d = number-output Refused size 11 0 out eight code-11 out1 d

pub ruleset refused_laws = (refused-step, refused-output)

-- ---- step_header

module _ (bytes out : List ℕ) (end : ℕ) (text : List ℕ) (t : text ≡ take (end - 1 - 0) (drop 0 bytes)) (v : Option Header) (e : v ≡ header_line text) (r : Step) (out1 : List ℕ) where
  abbrev headed : Stepping
  headed = step_header (header_line (take (end - 1 - 0) (drop 0 bytes))) (complete_lines (drop end bytes)) (unended (drop end bytes))

  headed-by : (x : Option Header) → v ≡ x → headed ≡ step_header x (complete_lines (drop end bytes)) (unended (drop end bytes))
  headed-by x u = rw (← t, ← e, u)

  module _ (u : v ≡ None) where
    pub header-bad : r ≡ step_in header_refused (length bytes) → r ≡ step_in headed (length bytes)
    header-bad d = d ∙ ap (λ (q : Stepping). step_in q (length bytes)) (sym (headed-by None u))

    pub header-bad-output : out1 ≡ put 0 header_refused.decoding.output out → out1 ≡ put 0 headed.decoding.output out
    header-bad-output d = d ∙ ap (λ (q : Stepping). put 0 q.decoding.output out) (sym (headed-by None u))

  module _ (x : Header) (u : v ≡ Some x) where
    pub header-good : r ≡ step_in (step_lines x.settings (complete_lines (drop end bytes)) (unended (drop end bytes))) (length bytes) → r ≡ step_in headed (length bytes)
    header-good d = d ∙ ap (λ (q : Stepping). step_in q (length bytes)) (sym (headed-by (Some x) u))

    pub header-good-output : out1 ≡ put 0 (step_lines x.settings (complete_lines (drop end bytes)) (unended (drop end bytes))).decoding.output out → out1 ≡ put 0 headed.decoding.output out
    header-good-output d = d ∙ ap (λ (q : Stepping). put 0 q.decoding.output out) (sym (headed-by (Some x) u))

pub ruleset step-header-laws = (header-bad, header-bad-output, header-good, header-good-output)

-- ---- a step over all bytes that prints nothing

pub silent-step : (p : Progress) (size : ℕ) → record { progress = p; used = size; written = 0; lines = 0; refused = 0 } ≡ step_in (record { progress = p; decoding = no_lines; left = 0 }) size
silent-step p size = rw (sub-zero size)

-- ---- step_first and step_skipping: the line at the front

-- a line with its newline, over-long or not
complete-line : (bytes : List ℕ) (v : NextLine) → v ≡ next_line bytes 0 → (end : ℕ) → (v ≡ OverLong end) ⊎ (v ≡ Ended end) → Complete bytes 0 end (take (end - 1 - 0) (drop 0 bytes))
complete-line bytes v q end u =
    ⊎_elim (λ (e : v ≡ OverLong end). (over-long-line bytes 0 (omega arith) v q end e).0) (λ (e : v ≡ Ended end). (ended-line bytes 0 (omega arith) v q end e).0) u

module _ (bytes out : List ℕ) (v : NextLine) (q : v ≡ next_line bytes 0) (r : Step) (out1 : List ℕ) where
  at_front : 0 ≤ length bytes
  at_front = omega arith

  abbrev first : Stepping
  first = step_first (complete_lines bytes) (unended bytes)

  -- what stands between the answer and the definition
  as_first : (stepping : Stepping) → first ≡ stepping → r ≡ step_in stepping (length bytes) → r ≡ step_in first (length bytes)
  as_first stepping e d = d ∙ ap (λ (x : Stepping). step_in x (length bytes)) (sym e)

  as-first-output : (stepping : Stepping) → first ≡ stepping → out1 ≡ put 0 stepping.decoding.output out → out1 ≡ put 0 first.decoding.output out
  as-first-output stepping e d = d ∙ ap (λ (x : Stepping). put 0 x.decoding.output out) (sym e)

  module _ (end : ℕ) (u : v ≡ Ended end) where
    ended-first : first ≡ step_header (header_line (take (end - 1 - 0) (drop 0 bytes))) (complete_lines (drop end bytes)) (unended (drop end bytes))
    unfolding step_first header_read
    ended-first = let f = ended-line bytes 0 at_front v q end u in rw (f.0.first, f.1, f.0.tail)

    pub first_ended : r ≡ step_in (step_header (header_line (take (end - 1 - 0) (drop 0 bytes))) (complete_lines (drop end bytes)) (unended (drop end bytes))) (length bytes) → r ≡ step_in first (length bytes)
    first_ended d = as_first _ ended-first d

    pub first-ended-output : out1 ≡ put 0 (step_header (header_line (take (end - 1 - 0) (drop 0 bytes))) (complete_lines (drop end bytes)) (unended (drop end bytes))).decoding.output out → out1 ≡ put 0 first.decoding.output out
    first-ended-output d = as-first-output _ ended-first d

  module _ (end : ℕ) (u : v ≡ OverLong end) where
    long-first : first ≡ header_refused
    unfolding step_first header_read
    long-first = let f = over-long-line bytes 0 at_front v q end u in rw (f.0.first, f.1)

    pub first-long : r ≡ step_in header_refused (length bytes) → r ≡ step_in first (length bytes)
    first-long d = as_first header_refused long-first d

    pub first-long-output : out1 ≡ put 0 header_refused.decoding.output out → out1 ≡ put 0 first.decoding.output out
    first-long-output d = as-first-output header_refused long-first d

  module _ (end : ℕ) (u : v ≡ Unended end) where
    open-lines : complete_lines bytes ≡ []
    open-lines = (unended-line bytes 0 at_front v q end u).0

    open-tail : unended bytes ≡ bytes
    open-tail = unended-all bytes open-lines

    open-size : end ≡ length bytes
    open-size = (unended-line bytes 0 at_front v q end u).1

    module _ (h : text_most < end) where
      open-long : first ≡ header_refused
      unfolding step_first over_long
      open-long = rw (open-lines, open-tail, lt-ltb text_most (length bytes) (omega (arith, h, open-size)))

      pub first-open-long : r ≡ step_in header_refused (length bytes) → r ≡ step_in first (length bytes)
      first-open-long d = as_first header_refused open-long d

      pub first-open-long-output : out1 ≡ put 0 header_refused.decoding.output out → out1 ≡ put 0 first.decoding.output out
      first-open-long-output d = as-first-output header_refused open-long d

    module _ (h : end ≤ text_most) where
      open-short : first ≡ record { progress = First; decoding = no_lines; left = length bytes }
      unfolding step_first over_long
      open-short = rw (open-lines, open-tail, le-ltb text_most (length bytes) (omega (arith, h, open-size)))

      pub first-open : r ≡ silent_step First 0 → r ≡ step_in first (length bytes)
      first-open d = as_first _ open-short (d ∙ rw (sub_self (length bytes)))

      pub first-open-output : out ≡ put 0 first.decoding.output out
      first-open-output = sym (put-done 0 out) ∙ ap (λ (x : Stepping). put 0 x.decoding.output out) (sym open-short)

  -- the rest of an over-long line
  module _ (c : Settings) where
    abbrev skipped : Stepping
    skipped = step_skipping c (complete_lines bytes) (unended bytes)

    module _ (end : ℕ) (u : (v ≡ OverLong end) ⊎ (v ≡ Ended end)) where
      rest-skipped : skipped ≡ step_lines c (complete_lines (drop end bytes)) (unended (drop end bytes))
      unfolding step_skipping
      rest-skipped = let f = complete-line bytes v q end u in rw (f.first, f.tail)

      pub skipped-rest : r ≡ step_in (step_lines c (complete_lines (drop end bytes)) (unended (drop end bytes))) (length bytes) → r ≡ step_in skipped (length bytes)
      skipped-rest d = d ∙ ap (λ (x : Stepping). step_in x (length bytes)) (sym rest-skipped)

      pub skipped-rest-output : out1 ≡ put 0 (step_lines c (complete_lines (drop end bytes)) (unended (drop end bytes))).decoding.output out → out1 ≡ put 0 skipped.decoding.output out
      skipped-rest-output d = d ∙ ap (λ (x : Stepping). put 0 x.decoding.output out) (sym rest-skipped)

    module _ (end : ℕ) (u : v ≡ Unended end) where
      still-skipping : skipped ≡ record { progress = Skipping c; decoding = no_lines; left = 0 }
      unfolding step_skipping
      still-skipping = rw (unended-line bytes 0 at_front v q end u).0

      pub skipped-open : r ≡ silent_step (Skipping c) (length bytes) → r ≡ step_in skipped (length bytes)
      skipped-open d = d ∙ (silent-step (Skipping c) (length bytes) ∙ ap (λ (x : Stepping). step_in x (length bytes)) (sym still-skipping))

      pub skipped-open-output : out ≡ put 0 skipped.decoding.output out
      skipped-open-output = sym (put-done 0 out) ∙ ap (λ (x : Stepping). put 0 x.decoding.output out) (sym still-skipping)

-- what the calls on the way ask

module _ (bytes : List ℕ) (v : NextLine) (q : v ≡ next_line bytes 0) (end : ℕ) where
  pub ended-one : v ≡ Ended end → 1 ≤ end
  ended-one u = omega (arith, (complete-line bytes v q end (inr u)).size)

  pub ended-inside : v ≡ Ended end → end ≤ length bytes
  ended-inside u = (complete-line bytes v q end (inr u)).inside

  pub complete-inside : (v ≡ OverLong end) ⊎ (v ≡ Ended end) → end ≤ length bytes
  complete-inside u = (complete-line bytes v q end u).inside

  -- what is printed for line one when it is bad
  pub room-long : (out : List ℕ) → Room 0 (length bytes) out → v ≡ OverLong end → Room 0 1 out
  room-long out room u = let f = complete-line bytes v q end (inl u) in omega (arith, room, f.size, f.inside)

  pub room-open : (out : List ℕ) → Room 0 (length bytes) out → v ≡ Unended end → text_most < end → Room 0 1 out
  room-open out room u h = omega (arith, room, h, (unended-line bytes 0 (omega arith) v q end u).1)

pub ruleset step-first-laws = (first_ended, first-ended-output, first-long, first-long-output, first-open-long, first-open-long-output, first-open, first-open-output)

pub ruleset step-skipping-laws = (skipped-rest, skipped-rest-output, skipped-open, skipped-open-output)
