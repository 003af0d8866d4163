-- Document 01, "Byte enables": counts of bits in a field of w bits, bit by bit. All to be believed: off, trail and
-- enabled bytes are such counts.
use Rattle.std.specs.Prelude.{ℕ, zero, suc, ◌+◌, ◌/◌}
use Rattle.bits.specs.Choice.{pick}
use Rattle.bits.specs.Field.{field, bit}

-- "the number of clear bits below the lowest set bit"; all w where none is set
unfoldable pub clear_below : ℕ → ℕ → ℕ
clear_below zero x = 0
clear_below (suc w) x = pick (bit x 0) 0 (suc (clear_below w (x / 2)))

-- "the number of clear bits above the highest set bit"; all w where none is set
unfoldable pub clear_above : ℕ → ℕ → ℕ
clear_above zero x = 0
clear_above (suc w) x = pick (bit x w) 0 (suc (clear_above w x))

-- how many of the w bits are set
unfoldable pub set_bits : ℕ → ℕ → ℕ
set_bits zero x = 0
set_bits (suc w) x = field x w 1 + set_bits w x
