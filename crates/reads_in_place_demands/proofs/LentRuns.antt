-- A lent table over its life: the theorems `LeavesAsCore`, `LentSplits`, `LentRuns`, `LentAsCore`.
use Prim.Native.Nat.{ℕ}
use mathlib.Core.Path.{◌≡◌, refl, ap, ◌∙◌}
use mathlib.Core.List.{List, [], ◌∷◌, ◌++◌}
use Rattle.std.specs.Prelude.{Option, Some, None}
use Rattle.reads.specs.declared.table.Table.{Table}
use Rattle.reads_demands.specs.History.{Call, opening, taking, withdrawing, asking, Event, open_event, take_event, withdraw_event, owed_event}
use Rattle.reads_demands.specs.Demand3.{next, run, answers}
use Rattle.reads_in_place_demands.specs.LentRuns.{Leaves, opens, takes, withdraws, asks, LentCall, LeftBy, Lent, calls_of, Split, LentSplits, core_call, core_run, LeavesAsCore, LentRuns, LentAsCore}

-- ---- a call

as_core : {t t' : Table} {c : Call} {e : Event} {store : Option (List ℕ)} {out : List ℕ} → Leaves t c e t' store out
    → record { call = c; event = e; table = t'; store = store; out = out } ≡ core_call t c
as_core (opens {q = q} {tag = tag} {store = store} {out = out} p) =
    λ i. record { call = opening q tag store out; event = open_event q tag store out (p.0 i).answer; table = (p.0 i).table; store = Some store; out = p.1 i }
as_core (takes {b = b} {store = store} p) = λ i. record { call = taking b store; event = take_event b store (p.0 i).answer; table = (p.0 i).table; store = Some (p.1 i); out = [] }
as_core (withdraws {tag = tag} p) = λ i. record { call = withdrawing tag; event = withdraw_event tag (p i).answer; table = (p i).table; store = None; out = [] }
as_core (asks {t = t} p) = λ i. record { call = asking; event = owed_event (p i); table = t; store = None; out = [] }

pub leaves-as-core : LeavesAsCore
leaves-as-core t m l = as_core l

-- the core's answer is one that the contract allows
core-leaves : (t : Table) (c : Call) → LeftBy t (core_call t c)
core-leaves t (opening q tag store out) = opens (refl, refl)
core-leaves t (taking b store) = takes (refl, refl)
core-leaves t (withdrawing tag) = withdraws refl
core-leaves t asking = asks refl

-- ---- a run

pub splits : (t : Table) (before : List LentCall) (m : LentCall) (rest : List LentCall) → Lent t (before ++ (m ∷ rest)) → Split t before m rest
splits t [] m rest l = record { earlier = tt; here = l.0; later = l.1 }
splits t (x ∷ before) m rest l =
    let s = splits x.table before m rest l.1 in
    record { earlier = (l.0, s.earlier); here = s.here; later = s.later }

pub joins : (t : Table) (before : List LentCall) (m : LentCall) (rest : List LentCall) → Split t before m rest → Lent t (before ++ (m ∷ rest))
joins t [] m rest s = (s.here, s.later)
joins t (x ∷ before) m rest s = (s.earlier.0, joins x.table before m rest (record { earlier = s.earlier.1; here = s.here; later = s.later }))

pub lent-splits : LentSplits
lent-splits t before m rest = (splits t before m rest, joins t before m rest)

pub lent_runs : LentRuns
lent_runs t [] = (tt, refl)
lent_runs t (c ∷ cs) =
    let r = lent_runs (next t c) cs in
    ((core-leaves t c, r.0), ap (λ (ds : List Call). c ∷ ds) r.1)

pub lent-as-core : LentAsCore
unfolding run answers
lent-as-core t [] l = record { calls = refl; table = refl; history = λ h. refl }
lent-as-core t (m ∷ ms) l =
    let r = lent-as-core m.table ms l.1 in
    let e = leaves-as-core t m l.0 in
    record {
      calls = (ap (λ (ns : List LentCall). m ∷ ns) r.calls) ∙ (λ i. e i ∷ core_run (e i).table (calls_of ms));
      table = r.table ∙ (λ i. run (e i).table (calls_of ms));
      history = λ h. r.history (m.event ∷ h) ∙ (λ i. answers (e i).table ((e i).event ∷ h) (calls_of ms));
    }
