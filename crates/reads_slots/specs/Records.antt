-- Document 01: "A tag's record is whether it is open and, if so, p and what open got", from the set of open tags and
-- the words of their reads. A reader must believe `record_at`, `state_below`, `opened_with` and `words_with`; the last
-- three say the same as the table's own sums and tests over `state_below`, and serve the scans.
use Rattle.std.specs.Prelude.{ℕ, Bool, List, ltb, Option, Some, None}
use Rattle.bits.specs.Choice.{pick}
use Rattle.tlp.specs.declared.settings.Settings.{Settings}
use Rattle.reads_rules.specs.declared.read.Read.{Read}
use Rattle.reads_rules.specs.declared.request.ReadRequest.{ReadRequest}
use Rattle.reads_words.specs.TagSets.{contains, with_tag, without_tag}
use Rattle.reads_words.specs.Words.{read_at, put_read, clear_read}
use Rattle.reads_slots.specs.Slots.{valid_state, shares_in, owed_in}

-- what is kept of a tag
unfoldable pub record_at : List ℕ → List ℕ → ℕ → Option Read
record_at opened words tag = pick (contains opened tag) (Some (read_at words tag)) None

-- a tag's record; a tag that is not below the limit is never open, and what is kept of it is not looked at
unfoldable pub state_below : ℕ → List ℕ → List ℕ → ℕ → Option Read
state_below limit opened words tag = pick (ltb tag limit) (record_at opened words tag) None

-- every change of a record, in the set and in the words; a free tag has one form
abbrev pub opened_with : List ℕ → ℕ → Option Read → List ℕ
opened_with opened tag None = without_tag opened tag
opened_with opened tag (Some r) = with_tag opened tag

abbrev pub words_with : List ℕ → ℕ → Option Read → List ℕ
words_with words tag None = clear_read words tag
words_with words tag (Some r) = put_read words tag r

-- ---- what the scans look at

-- closed records are not looked at
unfoldable pub valid_at : Settings → ℕ → List ℕ → List ℕ → ℕ → Bool
valid_at settings limit opened words tag = valid_state settings (state_below limit opened words tag)

-- 24 of one tag: "window shares a byte with an open read's window"
unfoldable pub shares_at : ReadRequest → ℕ → List ℕ → List ℕ → ℕ → Bool
shares_at q limit opened words tag = shares_in q (state_below limit opened words tag)

-- what one tag adds to "the sum of L - p over open reads"
unfoldable pub owed_at : ℕ → List ℕ → List ℕ → ℕ → ℕ
owed_at limit opened words tag = owed_in (state_below limit opened words tag)
