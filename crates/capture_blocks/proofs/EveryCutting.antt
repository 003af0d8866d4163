-- However an input is cut into blocks, their outputs joined are the decoding of the whole: the theorem `EveryCutting`.
use Prim.Native.Nat.{ℕ, ◌-◌}
use mathlib.Core.Path.{◌≡◌, refl, sym, ap, ◌∙◌}
use mathlib.Core.Bool.{Bool, true, false}
use mathlib.Core.List.{List, [], ◌∷◌, ◌++◌, append-nil, append_assoc}
use native.Mathlib.Nat.{zero-add, sub-zero}
use lib.ListN.{length, drop}
use lib.Seq.{drop-length}
use Rattle.tlp.specs.declared.settings.Settings.{Settings}
use Rattle.capture_lines.specs.Lines.{complete_lines, unended, over_long}
use Rattle.capture_print.specs.Outputs.{code_line}
use Rattle.capture_decode.specs.Decode.{header_read, lines_decoded, tail_decoded, header_decoded, text_decoded, decode_text}
use Rattle.capture.specs.declared.header.Header.{Header}
use Rattle.std.specs.Prelude.{Option}
use Rattle.std.specs.Prelude.{Some, None}
use Rattle.capture_lines.proofs.LineLaws.{complete-append, unended-append, complete-unended, unended-all, drop-unended}
use Rattle.capture_blocks.specs.Blocks.{step_lines, step_header, step_first, step_skipping, step_from, step_of, end_of, totals_follow, last_text, run_from, run_blocks, joined}
use Rattle.capture_blocks.specs.EveryCutting.{EveryCutting}
use Rattle.capture_blocks.specs.declared.Progress.{Progress}
use Rattle.capture_blocks.specs.declared.Progress.TheVariants.{First, Lines, Skipping, Refused}
use Rattle.capture_blocks.proofs.StepLaws.{rest_ahead, header_ahead, first_ahead, bytes_ahead, step_ahead, step-ahead}

-- ---- the bytes that a step leaves: none, or the unended line

abbrev kept : List ℕ → ℕ → List ℕ
kept bytes n = drop (length bytes - n) bytes

kept-none : (bytes : List ℕ) → kept bytes 0 ≡ []
kept-none bytes = rw (sub-zero (length bytes)) (drop-length bytes)

module _ (P : ℕ → Type 0) (none : P 0) (t : List ℕ) (all : P (length t)) where
  left-lines : (c : Settings) (texts : List (List ℕ)) (b : Bool) → over_long t ≡ b → P (step_lines c texts t).left
  unfolding step_lines
  left-lines c texts true h = rw h none
  left-lines c texts false h = rw h all

  left-header : (h : Option Header) (texts : List (List ℕ)) → P (step_header h texts t).left
  left-header None texts = none
  left-header (Some h) texts = left-lines h.settings texts (over_long t) refl

  left-first : (b : Bool) → over_long t ≡ b → P (step_first [] t).left
  unfolding step_first
  left-first true h = rw h none
  left-first false h = rw h all

  left-of : (p : Progress) (texts : List (List ℕ)) → P (step_from p texts t).left
  unfolding step_first step_skipping
  left-of First [] = left-first (over_long t) refl
  left-of First (first ∷ texts) = left-header (header_read first) texts
  left-of (Lines c) texts = left-lines c texts (over_long t) refl
  left-of (Skipping c) [] = none
  left-of (Skipping c) (rest ∷ texts) = left-lines c texts (over_long t) refl
  left-of Refused texts = none

kept-unended : (p : Progress) (bytes : List ℕ) → complete_lines (kept bytes (step_of p bytes).left) ≡ []
unfolding step_of complete_lines
kept-unended p bytes =
    left-of (λ n. complete_lines (kept bytes n) ≡ []) (ap complete_lines (kept-none bytes)) (unended bytes)
    (ap complete_lines (drop-unended bytes) ∙ complete-unended bytes) p (complete_lines bytes)

-- ---- a step on bytes, with y still to come

step-bytes : (p : Progress) (bytes y : List ℕ) (lines refused : ℕ) → bytes_ahead p lines refused (bytes ++ y) ≡ step_ahead (step_of p bytes) lines refused (kept bytes) y
unfolding bytes_ahead step_of
step-bytes p bytes y lines refused =
    rw (complete-append bytes y, unended-append bytes y)
    (step-ahead (unended bytes) y (complete-unended bytes) (kept bytes) (kept-none bytes) (drop-unended bytes) lines refused p (complete_lines bytes))

-- ---- a whole run

end-ahead : (p : Progress) (rest : List ℕ) (lines refused : ℕ) → complete_lines rest ≡ [] → last_text p (end_of p rest) lines refused ≡ bytes_ahead p lines refused rest
unfolding last_text end_of totals_follow bytes_ahead first_ahead rest_ahead lines_decoded
end-ahead First rest lines refused n = rw n (append-nil (code_line 11))
end-ahead (Lines c) rest lines refused n = rw (n, unended-all rest n)
end-ahead (Skipping c) rest lines refused n = rw n
end-ahead Refused rest lines refused n = refl

run-ahead : (blocks : List (List ℕ)) (p : Progress) (rest : List ℕ) (lines refused : ℕ) → complete_lines rest ≡ [] → run_from p rest lines refused blocks ≡ bytes_ahead p lines refused (rest ++ joined blocks)
unfolding run_from joined step_ahead
run-ahead [] p rest lines refused n = end-ahead p rest lines refused n ∙ ap (bytes_ahead p lines refused) (sym (append-nil rest))
run-ahead (block ∷ blocks) p rest lines refused n =
    ap (λ text. (step_of p (rest ++ block)).decoding.output ++ text)
    (run-ahead blocks _ _ _ _ (kept-unended p (rest ++ block)))
    ∙ sym (step-bytes p (rest ++ block) (joined blocks) lines refused)
    ∙ ap (bytes_ahead p lines refused) (append_assoc rest block (joined blocks))

-- after a bad first line nothing more is printed
pub refused-run : (blocks : List (List ℕ)) (rest : List ℕ) (lines refused : ℕ) → run_from Refused rest lines refused blocks ≡ []
unfolding run_from step_of last_text end_of totals_follow
refused-run [] rest lines refused = refl
refused-run (block ∷ blocks) rest lines refused = refused-run blocks _ _ _

-- ---- what is to come of a whole input is its decoding

header-decoded : (h : Option Header) (texts : List (List ℕ)) (tail : List ℕ) → header_ahead h 0 0 texts tail ≡ header_decoded h texts tail
header-decoded None texts tail = refl
header-decoded (Some h) texts tail = let d = lines_decoded h.settings texts (tail_decoded tail) in rw (zero-add d.lines, zero-add d.refused)

text-decoded : (texts : List (List ℕ)) (tail : List ℕ) → first_ahead 0 0 texts tail ≡ text_decoded texts tail
unfolding first_ahead text_decoded
text-decoded [] tail = refl
text-decoded (first ∷ texts) tail = header-decoded (header_read first) texts tail

pub every-cutting : EveryCutting
unfolding run_blocks decode_text bytes_ahead complete_lines
every-cutting blocks = run-ahead blocks First [] 0 0 refl ∙ text-decoded (complete_lines (joined blocks)) (unended (joined blocks))
