-- FNV-1a with 64 bits: each byte is put in by an exclusive or, before the product with the prime.
-- To believe: checksum and what it is made of.
use Rattle.std.specs.Prelude.{ℕ, ◌*◌, ◌%◌, ◌^◌, List, [], ◌∷◌, bit_xor}

unfoldable pub checksum_from : ℕ → List ℕ → ℕ
checksum_from h [] = h
checksum_from h (b ∷ rest) = checksum_from (bit_xor h b * 1099511628211 % 2 ^ 64) rest

-- from the offset basis
abbrev pub checksum : List ℕ → ℕ
checksum bytes = checksum_from 14695981039346656037 bytes
