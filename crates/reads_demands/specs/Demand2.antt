-- Demand 2's last sentence: "A successful completion is taken exactly when it legally continues an open read, is clean,
-- and the lent store, within its limit, can hold the window." More and Done follow from n and L - p. To be believed is
-- all of this file; the theorem is `TakenExactly`.
use Rattle.std.specs.Prelude.{ℕ, ◌≡◌, ◌⊎◌, ◌↔◌, true, List, Some}
use Rattle.reads_rules.specs.declared.read.Read.{Read}
use Rattle.reads_rules.specs.Validity.{owed_of}
use Rattle.reads_rules.specs.Windows.{holds_window}
use Rattle.reads_rules.specs.Continuations.{legal}
use Rattle.reads_rules.specs.Pieces.{piece_in}
use Rattle.reads.specs.declared.table.Table.{Table}
use Rattle.reads_answers.specs.declared.TakeAnswer.TheVariants.{More, Done}
use Rattle.reads.specs.Tables.{state_at, valid_table}
use Rattle.reads.specs.TakeCall.{take_call}
use Rattle.cuttings.specs.Lawful.{clean_packet}

-- the packet is a clean completion that legally continues the read r, which is open, and the store holds r's window
pub record Continues (t : Table) (b : List ℕ) (room : ℕ) (r : Read) : Type 0 where
  pub is_open : state_at t (piece_in b).header.tag ≡ Some r
  pub is_clean : clean_packet t.origin (piece_in b).header.tag r b ≡ true
  pub is_legal : legal t.origin r (piece_in b) ≡ true
  pub holds : holds_window r.request room ≡ true

pub record Demand2 (t : Table) (b : List ℕ) (room : ℕ) : Type 0 where
  pub taken : (((take_call t b room).answer ≡ More) ⊎ ((take_call t b room).answer ≡ Done))
      ↔ ((r : Read) × Continues t b room r)
  pub done : ((take_call t b room).answer ≡ Done) ↔ ((r : Read) × (Continues t b room r × ((piece_in b).length ≡ owed_of r)))

-- of every valid table; those reached from a new one with listed settings are (Demand3)
abbrev pub TakenExactly : Type 0
TakenExactly = (t : Table) (b : List ℕ) (room : ℕ) → valid_table t ≡ true → Demand2 t b room
