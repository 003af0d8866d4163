-- A table lent over its life: every call finds it as the last one left it. Such a run can be split at any call, and is
-- the core's run: the same answers, tables, stores and outputs. To be believed are `Leaves`, `LentCall`, `Lent`, and
-- what a run left: `calls_of`, `table_after`, `history_of`. The theorems are `LeavesAsCore`, `LentSplits`, `LentRuns`,
-- `LentAsCore`; demand 3 of such a run is in LentDemand3.
use Rattle.std.specs.Prelude.{ℕ, ◌≡◌, ◌↔◌, List, [], ◌∷◌, ◌++◌, Option, Some, None, Result}
use Rattle.tlp.specs.declared.refusal.Refusal.{Refusal}
use Rattle.reads_rules.specs.declared.request.ReadRequest.{ReadRequest}
use Rattle.reads_answers.specs.declared.TakeAnswer.{TakeAnswer}
use Rattle.reads.specs.declared.table.Table.{Table}
use Rattle.reads_demands.specs.History.{Call, opening, taking, withdrawing, asking, History}
use Rattle.reads_demands.specs.History.{Event, open_event, take_event, withdraw_event, owed_event}
use Rattle.reads_demands.specs.Demand3.{next, answered, left, output_left, run, answers}
use Rattle.reads_in_place.specs.LentTable.{OpenLeaves, TakeLeaves, WithdrawLeaves, OwedLeaves}

-- a call on a lent table t, with its answer: the table t', store and output that it leaves, by its contract; what is
-- lent by `&` stays as it is
pub data Leaves : Table → Call → Event → Table → Option (List ℕ) → List ℕ → Type 0 where
  opens : {t t' : Table} {q : ReadRequest} {tag : ℕ} {store out out' : List ℕ} {x : Result ℕ Refusal}
      → OpenLeaves t q tag store out x t' out'
      → Leaves t (opening q tag store out) (open_event q tag store out x) t' (Some store) out'
  takes : {t t' : Table} {b store store' : List ℕ} {x : TakeAnswer}
      → TakeLeaves t b store x t' store'
      → Leaves t (taking b store) (take_event b store x) t' (Some store') []
  withdraws : {t t' : Table} {tag : ℕ} {x : Result Unit Refusal}
      → WithdrawLeaves t tag x t'
      → Leaves t (withdrawing tag) (withdraw_event tag x) t' None []
  asks : {t : Table} {x : Result ℕ Refusal} → OwedLeaves t x → Leaves t asking (owed_event x) t None []

-- a call on a lent table as it was made: its answer, and the table, store and output that it left
pub record LentCall : Type 0 where
  pub call : Call
  pub event : Event
  pub table : Table
  pub store : Option (List ℕ)
  pub out : List ℕ

-- made on a table t, by its contract
abbrev pub LeftBy : Table → LentCall → Type 0
LeftBy t m = Leaves t m.call m.event m.table m.store m.out

-- calls made on a table one after the other, each on the table as the last one left it
abbrev pub Lent : Table → List LentCall → Type 0
Lent t [] = Unit {0}
Lent t (m ∷ ms) = LeftBy t m × Lent m.table ms

-- ---- what is seen of a run: its calls; the table afterwards, as the last one left it; its answers, the newest first
abbrev pub calls_of : List LentCall → List Call
calls_of [] = []
calls_of (m ∷ ms) = m.call ∷ calls_of ms

abbrev pub table_after : Table → List LentCall → Table
table_after t [] = t
table_after t (m ∷ ms) = table_after m.table ms

abbrev pub history_after : History → List LentCall → History
history_after h [] = h
history_after h (m ∷ ms) = history_after (m.event ∷ h) ms

abbrev pub history_of : List LentCall → History
history_of ms = history_after [] ms

-- ---- a run is split at any call, and put together again: a run of the calls before, the call on the table that they
-- left, and a run of the rest on the table that it left
pub record Split (t : Table) (before : List LentCall) (m : LentCall) (rest : List LentCall) : Type 0 where
  pub earlier : Lent t before
  pub here : LeftBy (table_after t before) m
  pub later : Lent m.table rest

abbrev pub LentSplits : Type 0
LentSplits = (t : Table) (before : List LentCall) (m : LentCall) (rest : List LentCall)
    → Lent t (before ++ (m ∷ rest)) ↔ Split t before m rest

-- ---- a call, and calls, as the core makes them
abbrev pub core_call : Table → Call → LentCall
core_call t c = record { call = c; event = answered t c; table = next t c; store = left t c; out = output_left t c }

abbrev pub core_run : Table → List Call → List LentCall
core_run t [] = []
core_run t (c ∷ cs) = core_call t c ∷ core_run (next t c) cs

-- what a call on a lent table answers and leaves is what the core answers and leaves
abbrev pub LeavesAsCore : Type 0
LeavesAsCore = (t : Table) (m : LentCall) → LeftBy t m → m ≡ core_call t m.call

-- every list of calls has a run
abbrev pub LentRuns : Type 0
LentRuns = (t : Table) (cs : List Call) → Lent t (core_run t cs) × (calls_of (core_run t cs) ≡ cs)

-- and each run is the core's: call by call, in its table afterwards and in its answers
pub record AsCore (t : Table) (ms : List LentCall) : Type 0 where
  pub calls : ms ≡ core_run t (calls_of ms)
  pub table : table_after t ms ≡ run t (calls_of ms)
  pub history : (h : History) → history_after h ms ≡ answers t h (calls_of ms)

abbrev pub LentAsCore : Type 0
LentAsCore = (t : Table) (ms : List LentCall) → Lent t ms → AsCore t ms
