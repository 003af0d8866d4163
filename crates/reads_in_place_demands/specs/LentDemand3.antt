-- Demand 3 of a lent table, over its own run "from a new table, each call given the table as the last one left it": by
-- the answers that the run's calls gave, and the tables, stores and outputs that they left. In what is concluded no
-- step of the core stands; supposed are the contracts (`Lent`), which are equations with the core's calls. To be
-- believed are this file, LentRuns and, of crate reads_demands, History and what is used here of Demand3. The theorem
-- is `LentDemand3Holds`, and LentInstance has runs for which its premises hold.
use Rattle.std.specs.Prelude.{ℕ, ◌+◌, ◌*◌, ◌<◌, ◌≡◌, ◌≢◌, ◌↔◌, true, List, [], ◌∷◌, ◌++◌, length, get_or, Some, None}
use Rattle.tlp.specs.Settings.{settings_listed}
use Rattle.reads_rules.specs.declared.request.ReadRequest.{ReadRequest}
use Rattle.reads_rules.specs.declared.origin.Origin.{Origin}
use Rattle.reads.specs.declared.table.Table.{Table}
use Rattle.reads_answers.specs.declared.TakeAnswer.TheVariants.{More, Done}
use Rattle.reads.specs.Tables.{new_table, state_at, valid_table}
use Rattle.cuttings.specs.Lawful.{lawful_cutting}
use Rattle.reads_demands.specs.History.{opening, taking, take_event, piece_tag, records_of, answers_of}
use Rattle.reads_demands.specs.Demand3.{lent, output, event_number}
use Rattle.reads_demands.specs.Demand3.{Harmless, SameWindow, or_last, delivered_byte, Ends, Outside}
use Rattle.reads_in_place_demands.specs.LentRuns.{LentCall, Lent, calls_of, table_after, history_of}

-- ---- the stretch from an opening to its last piece, as it was made: the pieces before the last, each a take of a
-- packet b with a store, and the calls that fall between
pub data LentItem : Type 0 where
  other : LentCall → LentItem
  piece : (b store : List ℕ) (m : LentCall) → m.call ≡ taking b store → LentItem

abbrev pub lent_calls_in : List LentItem → List LentCall
lent_calls_in [] = []
lent_calls_in (other m ∷ is) = m ∷ lent_calls_in is
lent_calls_in (piece b store m e ∷ is) = m ∷ lent_calls_in is

abbrev pub pieces_in : List LentItem → List (List ℕ)
pieces_in [] = []
pieces_in (other m ∷ is) = pieces_in is
pieces_in (piece b store m e ∷ is) = b ∷ pieces_in is

-- "no other completion of the tag is accepted, the tag is not withdrawn", by the run's own answers
abbrev pub LentUndisturbed : ℕ → List LentItem → Type 0
LentUndisturbed tag [] = Unit {0}
LentUndisturbed tag (other m ∷ is) = Harmless tag m.event × LentUndisturbed tag is
LentUndisturbed tag (piece b store m e ∷ is) = LentUndisturbed tag is

-- "The same store means: from opening to last piece, each open and take is lent one of equal length, with the window's
-- bytes as the last one left them": as the run's own calls left them
abbrev pub LentSameStore : ReadRequest → List ℕ → List LentCall → Type 0
LentSameStore q last [] = Unit {0}
LentSameStore q last (m ∷ ms) = SameWindow q last (lent m.call) × LentSameStore q (or_last last m.store) ms

-- each piece before the last was answered More
abbrev pub LentAllMore : List LentItem → Type 0
LentAllMore [] = Unit {0}
LentAllMore (other m ∷ is) = LentAllMore is
LentAllMore (piece b store m e ∷ is) = (m.event ≡ take_event b store More) × LentAllMore is

-- "every piece is taken. After the last, each enabled byte holds the answer, each other byte of the window is as at
-- opening, and the tag is free": in the store and the table that the last take left
pub record LentDelivered (q : ReadRequest) (tag : ℕ) (store₀ : List ℕ) (mid : List LentItem) (b store : List ℕ)
    (last : LentCall) : Type 0 where
  pub taken : LentAllMore mid
  pub done : last.event ≡ take_event b store Done
  pub free : state_at last.table tag ≡ None
  pub left : List ℕ
  pub is_left : last.store ≡ Some left
  pub bytes : (k : ℕ) → k < 4 * q.access.length
      → get_or left (q.start + k) 0 ≡ delivered_byte q store₀ (pieces_in mid ++ (b ∷ [])) k

-- "No take changes another tag's record or a byte outside its read's window": a take made on a table t
pub record LentTakeFrame (t : Table) (b store : List ℕ) (m : LentCall) : Type 0 where
  pub others : (u : ℕ) → piece_tag b ≢ u → state_at m.table u ≡ state_at t u
  pub left : List ℕ
  pub is_left : m.store ≡ Some left
  pub size : length left ≡ length store
  pub bytes : (i : ℕ) → Outside (state_at t (piece_tag b)) i → get_or left i 0 ≡ get_or store i 0

-- "a refused one changes nothing": no call that answers a number does; a call made on a table t
pub record LentUnchanged (t : Table) (m : LentCall) : Type 0 where
  pub table : m.table ≡ t
  pub store : m.store ≡ lent m.call
  pub out : m.out ≡ output m.call

pub record LentDemand3 (o : Origin) (ms : List LentCall) : Type 0 where
  -- "each answer, and after the list each tag's record, is what document 01 makes of the calls alone"
  pub says : history_of ms ≡ answers_of o (calls_of ms)
  pub records : (tag : ℕ) → state_at (table_after (new_table o) ms) tag ≡ records_of (history_of ms) tag
  -- "both fixed for its life"; the table stays valid, after every run and so, as a run can be split, before every call
  pub origin : (table_after (new_table o) ms).origin ≡ o
  pub valid : valid_table (table_after (new_table o) ms) ≡ true
  -- "Let the pieces of any lawful cutting for a read opened in the list stand there after that opening, in address
  -- order, whatever calls fall between."
  pub delivery : (before rest : List LentCall) (first last : LentCall) (q : ReadRequest) (tag : ℕ) (store₀ out : List ℕ)
      → (mid : List LentItem) (b store : List ℕ)
      → ms ≡ before ++ (first ∷ (lent_calls_in mid ++ (last ∷ rest)))
      → first.call ≡ opening q tag store₀ out
      → last.call ≡ taking b store
      → event_number first.event ≡ 0
      → lawful_cutting o tag q (pieces_in mid ++ (b ∷ [])) ≡ true
      → LentUndisturbed tag mid
      → LentSameStore q store₀ (lent_calls_in mid ++ (last ∷ []))
      → LentDelivered q tag store₀ mid b store last
  -- "A take answers Done exactly when its tag is open", and so on
  pub ends : (before rest : List LentCall) (m : LentCall) (b store : List ℕ)
      → ms ≡ before ++ (m ∷ rest) → m.call ≡ taking b store
      → (m.event ≡ take_event b store Done) ↔ Ends o (history_of before) b store
  pub frame : (before rest : List LentCall) (m : LentCall) (b store : List ℕ)
      → ms ≡ before ++ (m ∷ rest) → m.call ≡ taking b store
      → LentTakeFrame (table_after (new_table o) before) b store m
  pub unchanged : (before rest : List LentCall) (m : LentCall) → ms ≡ before ++ (m ∷ rest)
      → 0 < event_number m.event
      → LentUnchanged (table_after (new_table o) before) m

-- the theorem
abbrev pub LentDemand3Holds : Type 0
LentDemand3Holds = (o : Origin) (ms : List LentCall) → settings_listed o.settings ≡ true → Lent (new_table o) ms
    → LentDemand3 o ms
