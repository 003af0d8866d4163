-- Words with one space between them, and the values of their keys. To believe: all of it.
use Rattle.std.specs.Prelude.{ℕ, suc, ◌+◌, ◌-◌, min, Bool, true, false, ◌&&◌, List, [], ◌∷◌, length, take, drop, ◌==◌, nat_le, Option, Some, None}
use Rattle.bits.specs.Choice.{pick}
use Rattle.text.specs.declared.words.Place.{Place}

-- the bytes from index from up to index to, as far as there are any
abbrev pub part : List ℕ → ℕ → ℕ → List ℕ
part bytes from to = take (to - from) (drop from bytes)

-- how many bytes stand before the first space, 32
unfoldable pub word_length : List ℕ → ℕ
word_length [] = 0
word_length (b ∷ rest) = pick (b == 32) 0 (suc (word_length rest))

-- the index of the first space from index at on, or the end
unfoldable pub word_end : List ℕ → ℕ → ℕ
word_end line at = min at (length line) + word_length (drop at line)

-- whether a text begins with key
unfoldable pub begins_with : List ℕ → List ℕ → Bool
begins_with [] text = true
begins_with (k ∷ key) [] = false
begins_with (k ∷ key) (b ∷ rest) = b == k && begins_with key rest

-- whether key stands in line from index at on
unfoldable pub starts_with : List ℕ → ℕ → List ℕ → Bool
starts_with line at key = nat_le at (length line) && begins_with key (drop at line)

-- a value runs from its key, as in `len=`, to the next space or the end
unfoldable pub value_at : List ℕ → ℕ → List ℕ → Option Place
value_at line at key = pick (starts_with line at key) (Some (record { from = at + length key; to = word_end line (at + length key) })) None
