-- What the functions any_open and word_owed state: of any_open, the answer of a test P; of word_owed, one word w of the
-- set, from its first tag, b a bit of it.
use Rattle.std.specs.Prelude.{ℕ, ◌+◌, ◌≡◌, Bool, true, false, List, Option, Some, None}
use Rattle.bits.specs.Choice.{pick}
use Rattle.bits.specs.Field.{bit}
use Rattle.reads_rules.specs.declared.read.Read.{Read}
use Rattle.reads_words.specs.Words.{read_at}
use Rattle.reads_slots.specs.Slots.{owed_in}
use Rattle.reads_slots.specs.Records.{state_below}

-- P holds of an open read below the limit, or fails of each
abbrev pub AnyOpen : (Read → Bool → Type 0) → ℕ → List ℕ → List ℕ → Bool → Type 0
AnyOpen P limit opened words answer =
    (answer ≡ true → (u : ℕ) × (r : Read) × ((state_below limit opened words u ≡ Some r) × P r true))
    × (answer ≡ false → (u : ℕ) (r : Read) → state_below limit opened words u ≡ Some r → P r false)

-- the record of a tag of the word
unfoldable pub record_in : ℕ → List ℕ → ℕ → ℕ → Option Read
record_in w words from b = pick (bit w b) (Some (read_at words (from + b))) None

unfoldable pub owed_in_word : ℕ → List ℕ → ℕ → ℕ → ℕ
owed_in_word w words from b = owed_in (record_in w words from b)
