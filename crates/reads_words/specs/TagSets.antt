-- Document 01: "A tag's record is whether it is open", as a set of tags in words of 64 bits: tag mod 64 is the bit,
-- tag div 64 the word. A tag that there is no room for is in no set, and putting it in or taking it out changes
-- nothing. A reader must believe `contains`, `with_tag` and `without_tag`; the last two definitions serve the scans
-- alone.
use Rattle.std.specs.Prelude.{ℕ, ◌+◌, ◌-◌, ◌/◌, ◌%◌, ◌^◌, Bool, false, List, ltb, get_or, set}
use Rattle.bits.specs.Choice.{pick}
use Rattle.bits.specs.Count.{clear_below}
use Rattle.bits.specs.Field.{bit, low}
use Rattle.reads_words.specs.Capacity.{capacity}

-- a word with bit b set
unfoldable pub with_bit : ℕ → ℕ → ℕ
with_bit w b = pick (bit w b) w (w + 2 ^ b)

-- a word with bit b clear
unfoldable pub without_bit : ℕ → ℕ → ℕ
without_bit w b = pick (bit w b) (w - 2 ^ b) w

-- whether a tag is in the set
unfoldable pub contains : List ℕ → ℕ → Bool
contains ws tag = pick (ltb tag capacity) (bit (get_or ws (tag / 64) 0) (tag % 64)) false

-- a set with one tag's bit changed
unfoldable pub changed : (ℕ → ℕ → ℕ) → List ℕ → ℕ → List ℕ
changed g ws tag = pick (ltb tag capacity) (set ws (tag / 64) (g (get_or ws (tag / 64) 0) (tag % 64))) ws

-- a set with a tag in it, and without it
abbrev pub with_tag : List ℕ → ℕ → List ℕ
with_tag ws tag = changed with_bit ws tag

abbrev pub without_tag : List ℕ → ℕ → List ℕ
without_tag ws tag = changed without_bit ws tag

-- ---- the tags of a set, a word at a time

-- a word whose first tag is from, with the tags below the limit alone
unfoldable pub word_below : ℕ → ℕ → ℕ → ℕ
word_below w from limit = low w (limit - from)

-- a word without its lowest tag
unfoldable pub without_lowest : ℕ → ℕ
without_lowest w = without_bit w (clear_below 64 w)
