-- Document 01, take: when it answers Failed and when Poisoned, said without its rows. Failed looks at neither 33 nor
-- 34; Poisoned comes after both. With More and Done (Demand2) and the numbers (Demand1), every answer of take has its
-- "exactly when". To be believed is all of this file; the theorem is `FailuresExactly`, proved in proofs/Failures.
use Rattle.std.specs.Prelude.{ℕ, ◌≡◌, ◌⊎◌, ◌≢◌, ◌↔◌, true, false, List, length, Some, None}
use Rattle.reads_rules.specs.declared.read.Read.{Read}
use Rattle.reads_rules.specs.Windows.{holds_window}
use Rattle.reads_rules.specs.Continuations.{legal}
use Rattle.reads_rules.specs.Pieces.{piece_in}
use Rattle.reads.specs.declared.table.Table.{Table}
use Rattle.reads_answers.specs.declared.TakeAnswer.TheVariants.{Failed, Poisoned}
use Rattle.reads.specs.Tables.{state_at, valid_table}
use Rattle.reads.specs.TakeCall.{take_call, take_store}
use Rattle.cuttings.specs.Lawful.{reads_as_completion}

-- the packet is a completion of the read r, and not refused by "any reader number; 29 not Cpl or CplD; 30 requester ID
-- is not the table's, or no such tag is open; 31 TC or any Attr bit differs from the read's"
pub record Matches (t : Table) (b : List ℕ) (r : Read) : Type 0 where
  pub reads : reads_as_completion t.origin b ≡ true
  pub requester : (piece_in b).requester ≡ t.origin.requester
  pub is_open : state_at t (piece_in b).header.tag ≡ Some r
  pub traffic_class : (piece_in b).traffic_class ≡ r.request.traffic_class
  pub attributes : (piece_in b).attributes ≡ r.request.attributes

-- "001, 100 and reserved ones, which report as 001": a completion's status, and the one that is said with Failed
abbrev pub Reports : ℕ → ℕ → Type 0
Reports status said = ((status ≡ 0b100) × (said ≡ 0b100)) ⊎ ((status ≢ 0b100) × (said ≡ 0b001))

-- "A failing status", not refused by "32 BCM set, status 010, status 000 without data, or another status with data"
pub record Fails (t : Table) (b : List ℕ) (r : Read) (said : ℕ) : Type 0 where
  pub matches : Matches t b r
  pub unmodified : (piece_in b).header.byte_count_modified ≡ false
  pub without_data : (piece_in b).with_data ≡ false
  pub failing : (piece_in b).header.status ≢ 0b000
  pub no_retry : (piece_in b).header.status ≢ 0b010
  pub reports : Reports (piece_in b).header.status said

-- "A poisoned one (EP set)", of status 000, not refused by 32, nor by "33 not a legal continuation; 34 store over
-- 65,536 or too short for the window"
pub record Poisons (t : Table) (b : List ℕ) (room : ℕ) (r : Read) : Type 0 where
  pub matches : Matches t b r
  pub unmodified : (piece_in b).header.byte_count_modified ≡ false
  pub with_data : (piece_in b).with_data ≡ true
  pub successful : (piece_in b).header.status ≡ 0b000
  pub is_legal : legal t.origin r (piece_in b) ≡ true
  pub holds : holds_window r.request room ≡ true
  pub poisoned : (piece_in b).poisoned ≡ true

-- "closes the tag", "writes nothing"
pub record Closes (t : Table) (b store : List ℕ) : Type 0 where
  pub free : state_at (take_call t b (length store)).table (piece_in b).header.tag ≡ None
  pub unwritten : take_store t b store ≡ store

-- "closes the tag and answers Failed with the status; nothing is written"
pub record FailedExactly (t : Table) (b store : List ℕ) (status : ℕ) : Type 0 where
  pub exactly : ((take_call t b (length store)).answer ≡ Failed status) ↔ ((r : Read) × Fails t b r status)
  pub closes : (take_call t b (length store)).answer ≡ Failed status → Closes t b store

-- "closes the tag, answers Poisoned, writes nothing"
pub record PoisonedExactly (t : Table) (b store : List ℕ) : Type 0 where
  pub exactly : ((take_call t b (length store)).answer ≡ Poisoned) ↔ ((r : Read) × Poisons t b (length store) r)
  pub closes : (take_call t b (length store)).answer ≡ Poisoned → Closes t b store

-- of every valid table; those reached from a new one with listed settings are (Demand3)
pub record FailuresExactly : Type 0 where
  pub failed : (t : Table) (b store : List ℕ) (status : ℕ) → valid_table t ≡ true → FailedExactly t b store status
  pub poisoned : (t : Table) (b store : List ℕ) → valid_table t ≡ true → PoisonedExactly t b store
