-- Demand 3: one claim about every list of calls "from a new table, each call given the table as the last one left it".
-- To be believed are this file and History; the theorem is `Demand3Holds`, and Instance is a list for which its
-- premises hold.
use Rattle.std.specs.Prelude.{ℕ, ◌+◌, ◌*◌, ◌≤◌, ◌<◌, ◌≡◌, ◌⊎◌, ◌≢◌, ◌↔◌, true, List, [], ◌∷◌, ◌++◌, length, get_or}
use Rattle.std.specs.Prelude.{Option, Some, None}
use Rattle.bits.specs.Choice.{pick}
use Rattle.byte_enables.specs.Enables.{enabled}
use Rattle.tlp.specs.Settings.{settings_listed}
use Rattle.reads_rules.specs.declared.read.Read.{Read}
use Rattle.reads_rules.specs.declared.request.ReadRequest.{ReadRequest}
use Rattle.reads_rules.specs.declared.origin.Origin.{Origin}
use Rattle.reads_rules.specs.Windows.{window_end, holds_window}
use Rattle.reads.specs.declared.table.Table.{Table}
use Rattle.reads_answers.specs.declared.TakeAnswer.TheVariants.{More, Done}
use Rattle.reads.specs.Tables.{new_table, state_at, valid_table}
use Rattle.reads.specs.Answers.{open_number, take_number, withdraw_number, owed_number}
use Rattle.reads.specs.OpenCall.{open_call, open_out}
use Rattle.reads.specs.TakeCall.{take_call, take_store}
use Rattle.reads.specs.OtherCalls.{withdraw_call, owed_call}
use Rattle.cuttings.specs.Lawful.{lawful_cutting, payloads_joined}
use Rattle.reads_demands.specs.History.{Call, opening, taking, withdrawing, asking}
use Rattle.reads_demands.specs.History.{Event, open_event, take_event, withdraw_event, owed_event}
use Rattle.reads_demands.specs.History.{History, piece_tag, open_request, taken_pieces, records_of, answers_of}

-- ---- the table's step: the definitions that the calls of crate reads are equal to

-- the table after a call
abbrev pub next : Table → Call → Table
next t (opening q tag store out) = (open_call t q tag (length store) (length out)).table
next t (taking b store) = (take_call t b (length store)).table
next t (withdrawing tag) = (withdraw_call t tag).table
next t asking = t

-- a call with the table's answer
abbrev pub answered : Table → Call → Event
answered t (opening q tag store out) = open_event q tag store out (open_call t q tag (length store) (length out)).answer
answered t (taking b store) = take_event b store (take_call t b (length store)).answer
answered t (withdrawing tag) = withdraw_event tag (withdraw_call t tag).answer
answered t asking = owed_event (owed_call t)

-- the store lent to a call, and as the call leaves it
abbrev pub lent : Call → Option (List ℕ)
lent (opening q tag store out) = Some store
lent (taking b store) = Some store
lent (withdrawing tag) = None
lent asking = None

abbrev pub left : Table → Call → Option (List ℕ)
left t (opening q tag store out) = Some store
left t (taking b store) = Some (take_store t b store)
left t (withdrawing tag) = None
left t asking = None

-- the output lent to a call, and as the call leaves it
abbrev pub output : Call → List ℕ
output (opening q tag store out) = out
output (taking b store) = []
output (withdrawing tag) = []
output asking = []

abbrev pub output_left : Table → Call → List ℕ
output_left t (opening q tag store out) = open_out t q tag (length store) out
output_left t (taking b store) = []
output_left t (withdrawing tag) = []
output_left t asking = []

abbrev pub event_number : Event → ℕ
event_number (open_event q tag store out x) = open_number x
event_number (take_event b store x) = take_number x
event_number (withdraw_event tag x) = withdraw_number x
event_number (owed_event x) = owed_number x

-- the table after calls, and their answers, the newest first
unfoldable pub run : Table → List Call → Table
run t [] = t
run t (c ∷ cs) = run (next t c) cs

unfoldable pub answers : Table → History → List Call → History
answers t h [] = h
answers t h (c ∷ cs) = answers (next t c) (answered t c ∷ h) cs

-- a table "reached from a new one"
abbrev pub reached : Origin → List Call → Table
reached o cs = run (new_table o) cs

-- ---- the stretch from an opening to its last piece: the pieces before the last, and the calls that fall between
pub data Item : Type 0 where
  other : Call → Item
  piece : List ℕ → List ℕ → Item

abbrev pub call_of : Item → Call
call_of (other c) = c
call_of (piece b store) = taking b store

abbrev pub calls : List Item → List Call
calls [] = []
calls (i ∷ is) = call_of i ∷ calls is

abbrev pub pieces : List Item → List (List ℕ)
pieces [] = []
pieces (other c ∷ is) = pieces is
pieces (piece b store ∷ is) = b ∷ pieces is

-- "no other completion of the tag is accepted, the tag is not withdrawn"
abbrev pub Harmless : ℕ → Event → Type 0
Harmless tag (open_event q u store out x) = Unit {0}
Harmless tag (take_event b store x) = piece_tag b ≡ tag → 0 < take_number x
Harmless tag (withdraw_event u x) = u ≡ tag → 0 < withdraw_number x
Harmless tag (owed_event x) = Unit {0}

abbrev pub Undisturbed : ℕ → Table → List Item → Type 0
Undisturbed tag t [] = Unit {0}
Undisturbed tag t (other c ∷ is) = Harmless tag (answered t c) × Undisturbed tag (next t c) is
Undisturbed tag t (piece b store ∷ is) = Undisturbed tag (next t (taking b store)) is

-- "The same store means: from opening to last piece, each open and take is lent one of equal length, with the window's
-- bytes as the last one left them."
abbrev pub SameWindow : ReadRequest → List ℕ → Option (List ℕ) → Type 0
SameWindow q last None = Unit {0}
SameWindow q last (Some store) =
    (length store ≡ length last)
    × ((k : ℕ) → k < 4 * q.access.length → get_or store (q.start + k) 0 ≡ get_or last (q.start + k) 0)

abbrev pub or_last : List ℕ → Option (List ℕ) → List ℕ
or_last last None = last
or_last last (Some store) = store

abbrev pub SameStore : ReadRequest → Table → List ℕ → List Call → Type 0
SameStore q t last [] = Unit {0}
SameStore q t last (c ∷ cs) = SameWindow q last (lent c) × SameStore q (next t c) (or_last last (left t c)) cs

-- each piece before the last is answered More
abbrev pub AllMore : Table → List Item → Type 0
AllMore t [] = Unit {0}
AllMore t (other c ∷ is) = AllMore (next t c) is
AllMore t (piece b store ∷ is) = ((take_call t b (length store)).answer ≡ More) × AllMore (next t (taking b store)) is

-- byte k of the window after the last piece
abbrev pub delivered_byte : ReadRequest → List ℕ → List (List ℕ) → ℕ → ℕ
delivered_byte q store₀ bs k = pick (enabled q.access k) (get_or (payloads_joined bs) k 0) (get_or store₀ (q.start + k) 0)

-- "every piece is taken. After the last, each enabled byte holds the answer, each other byte of the window is as at
-- opening, and the tag is free."
pub record Delivered (q : ReadRequest) (tag : ℕ) (t : Table) (store₀ : List ℕ) (mid : List Item) (b store : List ℕ)
    : Type 0 where
  pub taken : AllMore t mid
  pub done : (take_call (run t (calls mid)) b (length store)).answer ≡ Done
  pub free : state_at (next (run t (calls mid)) (taking b store)) tag ≡ None
  pub bytes : (k : ℕ) → k < 4 * q.access.length
      → get_or (take_store (run t (calls mid)) b store) (q.start + k) 0
      ≡ delivered_byte q store₀ (pieces mid ++ (b ∷ [])) k

-- "its tag is open, the tag's pieces taken since that opening and then its own are a lawful cutting, and its store,
-- within its limit, can hold the window"
pub record Ends (o : Origin) (h : History) (b store : List ℕ) : Type 0 where
  pub request : ReadRequest
  pub is_open : open_request (piece_tag b) h ≡ Some request
  pub cutting : lawful_cutting o (piece_tag b) request (taken_pieces (piece_tag b) h ++ (b ∷ [])) ≡ true
  pub holds : holds_window request (length store) ≡ true

-- a byte outside the window of a tag's read
abbrev pub Outside : Option Read → ℕ → Type 0
Outside None i = Unit {0}
Outside (Some r) i = (i < r.request.start) ⊎ (window_end r.request ≤ i)

-- "No take changes another tag's record or a byte outside its read's window"
pub record TakeFrame (t : Table) (b store : List ℕ) : Type 0 where
  pub others : (u : ℕ) → piece_tag b ≢ u → state_at (next t (taking b store)) u ≡ state_at t u
  pub size : length (take_store t b store) ≡ length store
  pub bytes : (i : ℕ) → Outside (state_at t (piece_tag b)) i → get_or (take_store t b store) i 0 ≡ get_or store i 0

-- "a refused one changes nothing": no call that answers a number does
pub record Unchanged (t : Table) (c : Call) : Type 0 where
  pub table : next t c ≡ t
  pub store : left t c ≡ lent c
  pub out : output_left t c ≡ output c

pub record Demand3 (o : Origin) (cs : List Call) : Type 0 where
  -- "each answer, and after the list each tag's record, is what document 01 makes of the calls alone"
  pub says : answers (new_table o) [] cs ≡ answers_of o cs
  pub records : (tag : ℕ) → state_at (reached o cs) tag ≡ records_of (answers_of o cs) tag
  -- "both fixed for its life"; the table stays valid, after every list and so before every call
  pub origin : (reached o cs).origin ≡ o
  pub valid : valid_table (reached o cs) ≡ true
  -- "Let the pieces of any lawful cutting for a read opened in the list stand there after that opening, in address
  -- order, whatever calls fall between."
  pub delivery : (before rest : List Call) (q : ReadRequest) (tag : ℕ) (store₀ out : List ℕ)
      → (mid : List Item) (b store : List ℕ)
      → cs ≡ before ++ (opening q tag store₀ out ∷ (calls mid ++ (taking b store ∷ rest)))
      → open_number (open_call (reached o before) q tag (length store₀) (length out)).answer ≡ 0
      → lawful_cutting o tag q (pieces mid ++ (b ∷ [])) ≡ true
      → Undisturbed tag (next (reached o before) (opening q tag store₀ out)) mid
      → SameStore q (next (reached o before) (opening q tag store₀ out)) store₀ (calls mid ++ (taking b store ∷ []))
      → Delivered q tag (next (reached o before) (opening q tag store₀ out)) store₀ mid b store
  -- "A take answers Done exactly when its tag is open", and so on
  pub ends : (before rest : List Call) (b store : List ℕ) → cs ≡ before ++ (taking b store ∷ rest)
      → ((take_call (reached o before) b (length store)).answer ≡ Done) ↔ Ends o (answers_of o before) b store
  pub frame : (before rest : List Call) (b store : List ℕ) → cs ≡ before ++ (taking b store ∷ rest)
      → TakeFrame (reached o before) b store
  pub unchanged : (before rest : List Call) (c : Call) → cs ≡ before ++ (c ∷ rest)
      → 0 < event_number (answered (reached o before) c)
      → Unchanged (reached o before) c

-- the theorem
abbrev pub Demand3Holds : Type 0
Demand3Holds = (o : Origin) (cs : List Call) → settings_listed o.settings ≡ true → Demand3 o cs
