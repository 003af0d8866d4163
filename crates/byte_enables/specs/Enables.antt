-- Document 01, "Byte enables": which bytes of a request's doublewords are enabled, over one request (address, length,
-- first, last). All to be believed.
use Rattle.std.specs.Prelude.{ℕ, zero, suc, ◌+◌, ◌-◌, ◌*◌, ◌/◌, ◌%◌, Bool, ◌&&◌, not, List, [], ◌∷◌, leb, eqb}
use Rattle.bits.specs.Choice.{pick, one_of}
use Rattle.bits.specs.Field.{bit}
use Rattle.bits.specs.Count.{clear_below, clear_above, set_bits}
use Rattle.byte_enables.specs.declared.Access.{Access}

-- 1111, 1110, 1100, 1000: the first enables of three doublewords or more
abbrev pub first_kinds : List ℕ
first_kinds = 0b1111 ∷ 0b1110 ∷ 0b1100 ∷ 0b1000 ∷ []

-- 1111, 0111, 0011, 0001: the last enables of three doublewords or more
abbrev pub last_kinds : List ℕ
last_kinds = 0b1111 ∷ 0b0111 ∷ 0b0011 ∷ 0b0001 ∷ []

-- "Length 1: last is 0000, first is anything"; "Length 2: neither is 0000; holes are permitted"; "Length 3 or more:
-- first is 1111, 1110, 1100 or 1000; last is 1111, 0111, 0011 or 0001."
unfoldable pub enables_allowed : Access → Bool
enables_allowed a =
    pick (eqb a.length 1) (eqb a.last 0b0000)
    (pick (eqb a.length 2) (not (eqb a.first 0b0000) && not (eqb a.last 0b0000))
    (one_of first_kinds a.first && one_of last_kinds a.last))

-- "Off is the number of clear bits below the lowest set bit of first"; 0 for 0000
unfoldable pub off : Access → ℕ
off a = pick (eqb (a.first % 16) 0b0000) 0 (clear_below 4 (a.first % 16))

-- the enables of the last doubleword: "of last, or of first when Length is 1"
abbrev pub ending : Access → ℕ
ending a = pick (eqb a.length 1) a.first a.last

-- "Trail is the number of clear bits above the highest set bit" of these; 3 for 0000
unfoldable pub trail : Access → ℕ
trail a = pick (eqb (ending a % 16) 0b0000) 3 (clear_above 4 (ending a % 16))

-- "The total is 4 x Length - off - trail."
unfoldable pub total : Access → ℕ
total a = 4 * a.length - off a - trail a

-- the enables of doubleword i: "DWs between first and last have every byte enabled"; none past the request's end
unfoldable pub enables_at : Access → ℕ → ℕ
enables_at a i =
    pick (leb a.length i) 0b0000
    (pick (eqb i 0) (a.first % 16)
    (pick (eqb (i + 1) a.length) (a.last % 16)
    0b1111))

-- whether byte k of the window is enabled: "Bit 0 is the lowest byte."
unfoldable pub enabled : Access → ℕ → Bool
enabled a k = bit (enables_at a (k / 4)) (k % 4)

-- the enabled bytes in the n doublewords from doubleword p on: one for each bit set in their enables
unfoldable pub enabled_bytes : Access → ℕ → ℕ → ℕ
enabled_bytes a p zero = 0
enabled_bytes a p (suc n) = set_bits 4 (enables_at a p) + enabled_bytes a (p + 1) n
