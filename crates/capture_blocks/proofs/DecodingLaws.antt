-- A decoding before another, and what an over-long line gives, whatever follows it.
use Prim.Native.Nat.{ℕ, ◌+◌}
use mathlib.Core.Path.{◌≡◌, refl, sym, ap, ◌∙◌}
use mathlib.Core.Bool.{true}
use mathlib.Core.List.{List, [], ◌∷◌, ◌++◌, append_assoc}
use native.Mathlib.Nat.{zero-add, add_assoc, suc-add}
use native.Mathlib.Omega.{arith}
use lib.ListN.{length, length-append}
use borrow.Author.Tests.{ltb-true, lt-ltb}
use Rattle.tlp.specs.declared.settings.Settings.{Settings}
use Rattle.tlp.specs.declared.refusal.Refusal.{Refusal}
use Rattle.tlp.specs.declared.refusal.Refusal.TheVariants.{BadLine}
use Rattle.tlp.specs.declared.packet.Packet.{Packet}
use Rattle.capture_lines.specs.Lines.{text_most, over_long}
use Rattle.capture_print.specs.Outputs.{totals_line}
use Rattle.capture_decode.specs.Decode.{Decoding, line_read, header_read, refused_count, line_step, no_lines, tail_decoded, lines_decoded}
use Rattle.std.specs.Prelude.{None, Result, Err}

-- ---- one decoding before another

abbrev pub then : Decoding → Decoding → Decoding
then a b = record { output = a.output ++ b.output; lines = a.lines + b.lines; refused = a.refused + b.refused }

pub none_then : (b : Decoding) → then no_lines b ≡ b
none_then b = rw (zero-add b.lines, zero-add b.refused)

pub step_then : (x : Result Packet Refusal) (a b : Decoding) → line_step x (then a b) ≡ then (line_step x a) b
step_then x a b = rw (append_assoc, add_assoc (refused_count x), suc-add)

pub first_then : (x : Result Packet Refusal) (d : Decoding) → line_step x d ≡ then (line_step x no_lines) d
first_then x d = ap (line_step x) (sym (none_then d)) ∙ step_then x no_lines d

pub lines_then : (c : Settings) (texts : List (List ℕ)) (a b : Decoding) → lines_decoded c texts (then a b) ≡ then (lines_decoded c texts a) b
unfolding lines_decoded
lines_then c [] a b = refl
lines_then c (text ∷ texts) a b = ap (line_step (line_read c text)) (lines_then c texts a b) ∙ step_then (line_read c text) (lines_decoded c texts a) b

pub lines-append : (c : Settings) (texts more : List (List ℕ)) (d : Decoding) → lines_decoded c (texts ++ more) d ≡ lines_decoded c texts (lines_decoded c more d)
unfolding lines_decoded
lines-append c [] more d = refl
lines-append c (text ∷ texts) more d = ap (line_step (line_read c text)) (lines-append c texts more d)

-- ---- the output, and the totals of it and of what was counted before

abbrev pub totals_from : ℕ → ℕ → Decoding → List ℕ
totals_from lines refused d = d.output ++ totals_line (lines + d.lines) (refused + d.refused)

pub totals-then : (lines refused : ℕ) (a b : Decoding) → totals_from lines refused (then a b) ≡ a.output ++ totals_from (lines + a.lines) (refused + a.refused) b
totals-then lines refused a b = rw (append_assoc, add_assoc lines, add_assoc refused)

-- ---- over-long lines

module _ (t : List ℕ) (h : over_long t ≡ true) where
  pub over-long-more : (text : List ℕ) → over_long (t ++ text) ≡ true
  unfolding over_long
  over-long-more text = lt-ltb text_most (length (t ++ text)) (omega (arith, ltb-true text_most (length t) h, length-append t text))

  pub over-long-line : (c : Settings) (text : List ℕ) → line_read c (t ++ text) ≡ Err BadLine
  unfolding line_read
  over-long-line c text = rw (over-long-more text)

  pub over-long-header : (text : List ℕ) → header_read (t ++ text) ≡ None
  unfolding header_read
  over-long-header text = rw (over-long-more text)

pub over-long-tail : (t y : List ℕ) → over_long t ≡ true → tail_decoded (t ++ y) ≡ line_step (Err BadLine) no_lines
unfolding over_long tail_decoded
over-long-tail [] y h = absurd (omega (arith, ltb-true text_most 0 h))
over-long-tail (b ∷ t) y h = refl
