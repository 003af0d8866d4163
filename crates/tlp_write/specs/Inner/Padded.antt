-- For the contracts of words.rt: header bytes that are made in words of fixed length, of which the front is used.
use Rattle.std.specs.Prelude.{ℕ, List, [], ◌∷◌, ◌++◌, take}

-- the list, filled up to n elements by at most four zeros
abbrev pub padded : ℕ → List ℕ → List ℕ
padded n xs = take n (xs ++ (0 ∷ 0 ∷ 0 ∷ 0 ∷ []))
