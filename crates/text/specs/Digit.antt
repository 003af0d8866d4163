-- Digits as letters, document 01, Captures: "hex is lower case". To believe: hex_value, hex_digit, all_digits.
use Rattle.std.specs.Prelude.{ℕ, ◌+◌, ◌-◌, ◌%◌, Bool, true, ◌&&◌, List, [], ◌∷◌, nat_le, nat_lt}
use Rattle.bits.specs.Choice.{pick}

-- whether the byte b is one of those from a to e
abbrev pub in_range : ℕ → ℕ → ℕ → Bool
in_range a e b = nat_le a b && nat_le b e

-- 0 to 9 and a to f are good and mean 0 to 15; every other byte, capitals too, is bad: 16
unfoldable pub hex_value : ℕ → ℕ
hex_value b = pick (in_range 48 57 b) (b - 48) (pick (in_range 97 102 b) (b - 97 + 10) 16)

-- the letter of n % 16
unfoldable pub hex_digit : ℕ → ℕ
hex_digit n = pick (nat_lt (n % 16) 10) (48 + n % 16) (97 + (n % 16 - 10))

-- whether every byte is a digit of the base, which is at most 16
unfoldable pub all_digits : ℕ → List ℕ → Bool
all_digits base [] = true
all_digits base (b ∷ rest) = nat_lt (hex_value b) base && all_digits base rest
