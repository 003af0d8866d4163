-- Document 01: the table, its tags, and when "Any call gives 11 first". A reader must believe all of it: a table is
-- its tags' records, by `state_at`, and `valid_table`, `shares_open` and `owed_sum` are over these.
use Rattle.std.specs.Prelude.{ℕ, ◌*◌, ◌/◌, Bool, ◌&&◌, List, replicate, Option}
use Rattle.scans.specs.Belows.{all_below, any_below, sum_below}
use Rattle.tlp.specs.declared.settings.Settings.{Settings}
use Rattle.tlp.specs.Settings.{settings_listed}
use Rattle.reads_rules.specs.declared.read.Read.{Read}
use Rattle.reads_rules.specs.declared.origin.Origin.{Origin}
use Rattle.reads_rules.specs.declared.request.ReadRequest.{ReadRequest}
use Rattle.reads_slots.specs.Slots.{valid_state, shares_in, owed_in}
use Rattle.reads_words.specs.Capacity.{capacity}
use Rattle.reads_slots.specs.Records.{state_below, opened_with, words_with}
use Rattle.reads.specs.declared.table.Table.{Table}

-- the tags that may be opened are those below: "Tags run 0 to 31."
unfoldable pub tag_limit : Settings → ℕ
tag_limit settings = 32

-- "a new one has no tag open"
unfoldable pub new_table : Origin → Table
new_table o = record { origin = o; opened = replicate (capacity / 64) 0; words = replicate (4 * capacity) 0 }

-- the table that a call was given in parts
abbrev pub table_of : Origin → List ℕ → List ℕ → Table
table_of o opened words = record { origin = o; opened = opened; words = words }

-- a tag's record: free, or open with "p and what open got: address, length, enables, TC, Attr, window start"
unfoldable pub state_at : Table → ℕ → Option Read
state_at t tag = state_below (tag_limit t.origin.settings) t.opened t.words tag

-- every change of a record
unfoldable pub with_state : Table → ℕ → Option Read → Table
with_state t tag x = record {
  origin = t.origin;
  opened = opened_with t.opened tag x;
  words = words_with t.words tag x;
}

-- what 11 denies: "a table with a setting off the list, or an open record whose fields open would refuse"
unfoldable pub valid_table : Table → Bool
valid_table t =
    settings_listed t.origin.settings
    && all_below (tag_limit t.origin.settings) (λ u. valid_state t.origin.settings (state_at t u))

-- 24: "window shares a byte with an open read's window"
unfoldable pub shares_open : Table → ReadRequest → Bool
shares_open t q = any_below (tag_limit t.origin.settings) (λ u. shares_in q (state_at t u))

-- "the sum of L - p over open reads"
unfoldable pub owed_sum : Table → ℕ
owed_sum t = sum_below (tag_limit t.origin.settings) (λ u. owed_in (state_at t u))
