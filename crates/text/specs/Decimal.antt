-- Document 01, Captures: "Decimals have no leading zeros". To believe: decimal_number, decimal_text.
use Rattle.std.specs.Prelude.{ℕ, List, Option}
use Rattle.text.specs.Number.{plainly, number_in, plain_text}

-- a decimal number that is not above most
abbrev pub decimal_number : ℕ → List ℕ → Option ℕ
decimal_number most text = plainly text (number_in 10 most text)

-- a number as its decimal digits
abbrev pub decimal_text : ℕ → List ℕ
decimal_text n = plain_text 10 n
