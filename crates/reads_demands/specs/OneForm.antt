-- A free tag has one form in every table "reached from a new one": such a table is the new one with its records put in,
-- so that two which have the same records are the same table. The theorems are `OneForm` and `SameRecords`.
use Rattle.std.specs.Prelude.{ℕ, zero, suc, ◌<◌, ◌≡◌, true, List}
use Rattle.tlp.specs.Settings.{settings_listed}
use Rattle.reads_rules.specs.declared.origin.Origin.{Origin}
use Rattle.reads.specs.declared.table.Table.{Table}
use Rattle.reads.specs.Tables.{tag_limit, new_table, with_state}
use Rattle.reads_demands.specs.History.{Call, Records, records_of, answers_of}
use Rattle.reads_demands.specs.Demand3.{reached}

-- a new table with the records of the tags below n put in
unfoldable pub holding : Origin → ℕ → Records → Table
holding o zero records = new_table o
holding o (suc n) records = with_state (holding o n records) n (records n)

-- the theorem: the table after a list of calls is made of the records by the calls alone
abbrev pub OneForm : Type 0
OneForm = (o : Origin) (cs : List Call)
    → settings_listed o.settings ≡ true
    → reached o cs ≡ holding o (tag_limit o.settings) (records_of (answers_of o cs))

-- and so: lists of calls that leave the same records leave the same table
abbrev pub SameRecords : Type 0
SameRecords = (o : Origin) (cs ds : List Call)
    → settings_listed o.settings ≡ true
    → ((u : ℕ) → u < tag_limit o.settings → records_of (answers_of o cs) u ≡ records_of (answers_of o ds) u)
    → reached o cs ≡ reached o ds
