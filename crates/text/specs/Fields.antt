-- The fields of a line, document 01, Captures: "each key once, one space between". A key after the first begins with
-- that space; the first is read from index 0 on, and each other one from the index after the field before it, as
-- option_and_then chains them. To believe: decimal_after, hex_after, plain_hex_after, key_after and what they are made of.
use Rattle.std.specs.Prelude.{ℕ, ◌+◌, List, length, ◌==◌, Option, Some, None, option_map, option_and_then}
use Rattle.bits.specs.Choice.{pick}
use Rattle.text.specs.Decimal.{decimal_number}
use Rattle.text.specs.Hex.{hex_number, hex_plain}
use Rattle.text.specs.Words.{part, starts_with, value_at}
use Rattle.text.specs.declared.words.Place.{Place}
use Rattle.text.specs.declared.fields.Field.{Field}

-- a value, as parse reads it, and the index after it
abbrev pub parsed_in : (List ℕ → Option ℕ) → List ℕ → Place → Option Field
parsed_in parse line p = option_map (λ (n : ℕ). record { value = n; next = p.to }) (parse (part line p.from p.to))

-- the value whose key stands from index at on
abbrev pub read_after : (List ℕ → Option ℕ) → List ℕ → ℕ → List ℕ → Option Field
read_after parse line at key = option_and_then (parsed_in parse line) (value_at line at key)

-- a decimal number that is not above most
unfoldable pub decimal_after : List ℕ → ℕ → List ℕ → ℕ → Option Field
decimal_after line at key most = read_after (decimal_number most) line at key

-- a number in so many hexadecimal digits
abbrev pub fixed_hex : ℕ → List ℕ → Option ℕ
fixed_hex width digits = pick (length digits == width) (hex_number digits) None

unfoldable pub hex_after : List ℕ → ℕ → List ℕ → ℕ → Option Field
hex_after line at key width = read_after (fixed_hex width) line at key

-- a hexadecimal number without leading zeros
unfoldable pub plain_hex_after : List ℕ → ℕ → List ℕ → Option Field
plain_hex_after line at key = read_after hex_plain line at key

-- the key alone: the index after it
unfoldable pub key_after : List ℕ → ℕ → List ℕ → Option ℕ
key_after line at key = pick (starts_with line at key) (Some (at + length key)) None
