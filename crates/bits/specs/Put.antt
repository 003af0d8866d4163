-- Bytes laid over a part of a list. To be believed: what a call leaves of a thing lent to it is written in it.
use Rattle.std.specs.Prelude.{ℕ, ◌+◌, List, ◌++◌, length, take, drop}

-- out with src over it from index at on
unfoldable pub put : ℕ → List ℕ → List ℕ → List ℕ
put at src out = take at out ++ (src ++ drop (at + length src) out)

-- out with xs over its front
abbrev pub over_front : List ℕ → List ℕ → List ℕ
over_front xs out = xs ++ drop (length xs) out
