-- A text as its bytes, so that a definition's bytes can be compared with what they spell: no contract cites it.
use Rattle.std.specs.Prelude.{ℕ, zero, suc, List, [], ◌∷◌}
use Prim.Native.Char.{code}
use Prim.Native.String.{String, count, char_at}

-- the codes of n characters from index i on
unfoldable pub letters_from : String → ℕ → ℕ → List ℕ
letters_from text zero i = []
letters_from text (suc n) i = code (char_at text i) ∷ letters_from text n (suc i)

-- the bytes of a text whose characters are all ASCII
abbrev pub letters : String → List ℕ
letters text = letters_from text (count text) 0
