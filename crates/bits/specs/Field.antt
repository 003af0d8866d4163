-- Bit fields of a number, bit 0 the lowest. All to be believed: document 01's header layout is written in them.
use Rattle.std.specs.Prelude.{ℕ, ◌/◌, ◌%◌, ◌^◌, Bool, eqb}

-- the w bits of x that start at bit p: document 01's "Fmt bits 7:5" is field x 5 3
abbrev pub field : ℕ → ℕ → ℕ → ℕ
field x p w = x / 2 ^ p % 2 ^ w

-- the w lowest bits of x: document 01's "1:0" is low x 2
abbrev pub low : ℕ → ℕ → ℕ
low x w = x % 2 ^ w

-- whether bit p of x is set
abbrev pub bit : ℕ → ℕ → Bool
bit x p = eqb (field x p 1) 1
