-- Document 01, Captures: lines are "newline ended", and a line "has at most 8,267 bytes with its newline". What a
-- reader must believe: complete_lines, unended and over_long, of which a capture's decoding is made; and next_line, what
-- next_line answers.
use Rattle.std.specs.Prelude.{ℕ, suc, ◌+◌, min, ◌≡◌, refl, Bool, true, false, List, [], ◌∷◌, map, ltb, eqb, length, drop, replicate}
use Rattle.bits.specs.Choice.{pick}
use Rattle.capture_lines.specs.declared.NextLine.{NextLine}
use Rattle.capture_lines.specs.declared.NextLine.TheVariants.{Ended, OverLong, Unended}

abbrev pub is_newline : ℕ → Bool
is_newline b = eqb b 10

-- ---- all lines of an input

unfoldable pub line_with : ℕ → List (List ℕ) → List (List ℕ)
line_with b [] = []
line_with b (text ∷ texts) = (b ∷ text) ∷ texts

-- the complete lines: the texts that a newline ends, in order, without it
unfoldable pub complete_lines : List ℕ → List (List ℕ)
complete_lines [] = []
complete_lines (b ∷ bytes) = pick (is_newline b) ([] ∷ complete_lines bytes) (line_with b (complete_lines bytes))

unfoldable pub tail_with : ℕ → List ℕ → List (List ℕ) → List ℕ → List ℕ
tail_with b bytes [] tail = b ∷ bytes
tail_with b bytes (text ∷ texts) tail = tail

-- what stands after the last newline
unfoldable pub unended : List ℕ → List ℕ
unended [] = []
unended (b ∷ bytes) = pick (is_newline b) (unended bytes) (tail_with b bytes (complete_lines bytes) (unended bytes))

-- ---- one line

-- the most bytes of a line, without its newline
abbrev pub text_most : ℕ
text_most = 8266

unfoldable pub over_long : List ℕ → Bool
over_long text = ltb text_most (length text)

-- "at most 8,267 bytes with its newline"
pub longest : map (λ (n : ℕ). over_long (replicate n 48)) (8266 ∷ 8267 ∷ []) ≡ false ∷ true ∷ []
unfolding over_long
longest = refl

-- how many bytes stand before the first newline
unfoldable pub line_length : List ℕ → ℕ
line_length [] = 0
line_length (b ∷ bytes) = pick (is_newline b) 0 (suc (line_length bytes))

-- the line of n bytes that begins at index start, in an input of so many bytes
abbrev pub line_of : ℕ → ℕ → ℕ → NextLine
line_of size start n =
    pick (ltb (start + n) size)
    (pick (ltb text_most n) (OverLong (suc (start + n))) (Ended (suc (start + n))))
    (Unended (start + n))

-- the line that begins at a place, with the index after it
unfoldable pub next_line : List ℕ → ℕ → NextLine
next_line bytes place = line_of (length bytes) (min place (length bytes)) (line_length (drop place bytes))
