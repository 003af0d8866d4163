-- Numbers and bytes in hexadecimal, document 01, Captures: "hex is lower case". To believe: all of it.
use Rattle.std.specs.Prelude.{ℕ, ◌+◌, ◌*◌, ◌/◌, ◌%◌, not, ◌&&◌, List, [], ◌∷◌, length, take, ◌==◌, nat_le, Option, Some, None}
use Rattle.bits.specs.Choice.{pick}
use Rattle.text.specs.Laid.{fits, laid}
use Rattle.text.specs.Digit.{hex_value, hex_digit, all_digits}
use Rattle.text.specs.Number.{value, plainly, empty, plain_text}

-- the number of 1 to 16 digits, which 64 bits hold
unfoldable pub hex_number : List ℕ → Option ℕ
hex_number text = pick (not (empty text) && (nat_le (length text) 16 && all_digits 16 text)) (Some (value 16 text)) None

-- the same without leading zeros: 0 for zero
abbrev pub hex_plain : List ℕ → Option ℕ
hex_plain text = plainly text (hex_number text)

-- a number as its digits without leading zeros
abbrev pub hex_plain_text : ℕ → List ℕ
hex_plain_text n = plain_text 16 n

-- a byte for every two digits
unfoldable pub pairs : List ℕ → List ℕ
pairs [] = []
pairs (a ∷ []) = []
pairs (a ∷ b ∷ rest) = (hex_value a * 16 + hex_value b) ∷ pairs rest

-- the bytes that any even number of digits spell
unfoldable pub bytes_spelled : List ℕ → Option (List ℕ)
bytes_spelled text = pick (length text % 2 == 0 && all_digits 16 text) (Some (pairs text)) None

-- how many bytes go over the front of out, where there are any and they fit
unfoldable pub spelled_answer : Option (List ℕ) → List ℕ → Option ℕ
spelled_answer None out = None
spelled_answer (Some bytes) out = pick (fits 0 bytes out) (Some (length bytes)) None

-- the output afterwards, unchanged where the answer is None
unfoldable pub spelled_over : Option (List ℕ) → List ℕ → List ℕ
spelled_over None out = out
spelled_over (Some bytes) out = laid 0 bytes out

-- the same where only the first most bytes go over the front of out; the answer counts all of them
unfoldable pub front_answer : ℕ → Option (List ℕ) → List ℕ → Option ℕ
front_answer most None out = None
front_answer most (Some bytes) out = pick (fits 0 (take most bytes) out) (Some (length bytes)) None

unfoldable pub front_over : ℕ → Option (List ℕ) → List ℕ → List ℕ
front_over most None out = out
front_over most (Some bytes) out = laid 0 (take most bytes) out

-- two digits for every byte
unfoldable pub hex_text : List ℕ → List ℕ
hex_text [] = []
hex_text (b ∷ rest) = hex_digit (b / 16) ∷ hex_digit b ∷ hex_text rest
