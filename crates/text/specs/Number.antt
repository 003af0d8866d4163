-- Numbers in a base, the highest digit first.
-- To believe: plain, plainly, number_in, digits, digit_count, plain_text and what they are made of.
use Rattle.std.specs.Prelude.{ℕ, zero, suc, ◌+◌, ◌*◌, ◌/◌, ◌%◌, Bool, true, false, not, ◌&&◌, List, [], ◌∷◌, ◌++◌, ◌==◌, nat_le, nat_lt, Option, Some, None}
use Rattle.bits.specs.Choice.{pick}
use Rattle.text.specs.Digit.{hex_value, hex_digit, all_digits}

-- ---- read

-- the number that digits mean after the number v
unfoldable pub value_from : ℕ → ℕ → List ℕ → ℕ
value_from base v [] = v
value_from base v (b ∷ rest) = value_from base (v * base + hex_value b) rest

-- the number that digits mean
abbrev pub value : ℕ → List ℕ → ℕ
value base text = value_from base 0 text

-- without leading zeros: a first digit 0 stands alone
unfoldable pub plain : List ℕ → Bool
plain [] = true
plain (b ∷ []) = true
plain (b ∷ c ∷ rest) = not (hex_value b == 0)

-- a number as read, where it has no leading zeros
unfoldable pub plainly : List ℕ → Option ℕ → Option ℕ
plainly text p = pick (plain text) p None

-- whether there is no byte
unfoldable pub empty : List ℕ → Bool
empty [] = true
empty (b ∷ rest) = false

-- a number, where text is digits, one at least, and it is not above most
unfoldable pub number_in : ℕ → ℕ → List ℕ → Option ℕ
number_in base most text = pick (not (empty text) && (all_digits base text && nat_le (value base text) most)) (Some (value base text)) None

-- ---- printed

-- the k lowest digits of n
unfoldable pub digits : ℕ → ℕ → ℕ → List ℕ
digits base zero n = []
digits base (suc k) n = digits base k (n / base) ++ (hex_digit (n % base) ∷ [])

-- how many digits n has, counted up to k
unfoldable pub count_to : ℕ → ℕ → ℕ → ℕ
count_to base zero n = 0
count_to base (suc k) n = suc (pick (nat_lt n base) 0 (count_to base k (n / base)))

-- how many digits a number of 64 bits has: 64 at most, in any base
abbrev pub digit_count : ℕ → ℕ → ℕ
digit_count base n = count_to base 64 n

-- n without leading zeros
abbrev pub plain_text : ℕ → ℕ → List ℕ
plain_text base n = digits base (digit_count base n) n
