-- Demand 3 of a lent table: the theorem `LentDemand3Holds`. A run is the core's, call by call, so that each part is the
-- core's demand 3 of the run's calls.
use Prim.Native.Nat.{ℕ, ◌<◌}
use mathlib.Core.Path.{◌≡◌, refl, ap, sym, ◌∙◌, subst, subst⁻¹}
use mathlib.Core.Logic.{◌↔◌}
use mathlib.Core.Bool.{true}
use mathlib.Core.List.{List, [], ◌∷◌, ◌++◌}
use Rattle.tlp.specs.Settings.{settings_listed}
use Rattle.reads_rules.specs.declared.request.ReadRequest.{ReadRequest}
use Rattle.reads_rules.specs.declared.origin.Origin.{Origin}
use Rattle.reads.specs.declared.table.Table.{Table}
use Rattle.reads_answers.specs.declared.TakeAnswer.{TakeAnswer}
use Rattle.reads_answers.specs.declared.TakeAnswer.TheVariants.{Done}
use Rattle.reads.specs.Tables.{new_table, state_at, valid_table}
use Rattle.reads.specs.TakeCall.{take_store}
use Rattle.cuttings.specs.Lawful.{lawful_cutting}
use Rattle.reads_demands.specs.History.{Call, opening, taking, take_event, History, records_of, answers_of}
use Rattle.reads_demands.specs.Demand3.{answered, event_number, run, reached, Item, other as other_item, piece as piece_item, calls, pieces, Harmless, Undisturbed, or_last, SameStore, AllMore, delivered_byte, Delivered, Ends, TakeFrame, Unchanged}
use Rattle.reads_demands.proofs.Demand3.{demand3}
use Rattle.reads_in_place_demands.specs.LentRuns.{LentCall, LeftBy, Lent, calls_of, table_after, history_of, core_call, Split}
use Rattle.reads_in_place_demands.specs.LentDemand3.{LentItem, other, piece, lent_calls_in, pieces_in, LentUndisturbed, LentSameStore, LentAllMore, LentDelivered, LentTakeFrame, LentUnchanged, LentDemand3Holds}
use Rattle.reads_in_place_demands.proofs.LentRuns.{leaves-as-core, splits, joins, lent-as-core}

call-as-core : {t : Table} {m : LentCall} {c : Call} → LeftBy t m → m.call ≡ c → m ≡ core_call t c
call-as-core {t = t} {m = m} l e = leaves-as-core t m l ∙ ap (core_call t) e

-- ---- a stretch as the core has it

abbrev items_of : List LentItem → List Item
items_of [] = []
items_of (other m ∷ is) = other_item m.call ∷ items_of is
items_of (piece b store m e ∷ is) = piece_item b store ∷ items_of is

items-pieces : (is : List LentItem) → pieces (items_of is) ≡ pieces_in is
items-pieces [] = refl
items-pieces (other m ∷ is) = items-pieces is
items-pieces (piece b store m e ∷ is) = ap (λ (bs : List (List ℕ)). b ∷ bs) (items-pieces is)

items-calls : (is : List LentItem) → calls_of (lent_calls_in is) ≡ calls (items_of is)
items-calls [] = refl
items-calls (other m ∷ is) = ap (λ (cs : List Call). m.call ∷ cs) (items-calls is)
items-calls (piece b store m e ∷ is) = λ i. e i ∷ items-calls is i

calls-append : (xs ys : List LentCall) → calls_of (xs ++ ys) ≡ calls_of xs ++ calls_of ys
calls-append [] ys = refl
calls-append (m ∷ xs) ys = ap (λ (cs : List Call). m.call ∷ cs) (calls-append xs ys)

-- what is supposed of it
items-undisturbed : (tag : ℕ) (t : Table) (is : List LentItem) → Lent t (lent_calls_in is) → LentUndisturbed tag is → Undisturbed tag t (items_of is)
items-undisturbed tag t [] l u = tt
items-undisturbed tag t (other m ∷ is) l u =
    subst (λ (n : LentCall). Harmless tag n.event × Undisturbed tag n.table (items_of is)) (leaves-as-core t m l.0) (u.0, items-undisturbed tag m.table is l.1 u.1)
items-undisturbed tag t (piece b store m e ∷ is) l u =
    subst (λ (n : LentCall). Undisturbed tag n.table (items_of is)) (call-as-core l.0 e) (items-undisturbed tag m.table is l.1 u)

same_store : (q : ReadRequest) (t : Table) (last : List ℕ) (ms : List LentCall) → Lent t ms → LentSameStore q last ms → SameStore q t last (calls_of ms)
same_store q t last [] l w = tt
same_store q t last (m ∷ ms) l w =
    (w.0, subst (λ (n : LentCall). SameStore q n.table (or_last last n.store) (calls_of ms)) (leaves-as-core t m l.0) (same_store q m.table (or_last last m.store) ms l.1 w.1))

-- and what follows
items_more : (t : Table) (is : List LentItem) → Lent t (lent_calls_in is) → AllMore t (items_of is) → LentAllMore is
items_more t [] l a = tt
items_more t (other m ∷ is) l a = items_more m.table is l.1 (subst⁻¹ (λ (n : LentCall). AllMore n.table (items_of is)) (leaves-as-core t m l.0) a)
items_more t (piece b store m e ∷ is) l a =
    let x = call-as-core l.0 e in
    (ap (λ (n : LentCall). n.event) x ∙ ap (take_event b store) a.0, items_more m.table is l.1 (subst⁻¹ (λ (n : LentCall). AllMore n.table (items_of is)) x a.1))

-- ---- from a new table

take-answer : (b store : List ℕ) (x y : TakeAnswer) → take_event b store x ≡ take_event b store y → x ≡ y
take-answer b store x y e = cc

module _ (o : Origin) (listed : settings_listed o.settings ≡ true) where
  says : (ms : List LentCall) → Lent (new_table o) ms → history_of ms ≡ answers_of o (calls_of ms)
  says ms l = (lent-as-core (new_table o) ms l).history [] ∙ (demand3 o (calls_of ms) listed).says

  -- a call after others, on the table that they left
  module _ (before : List LentCall) (l : Lent (new_table o) before) (m : LentCall) (here : LeftBy (table_after (new_table o) before) m) where
    after-core : (c : Call) → m.call ≡ c → m ≡ core_call (reached o (calls_of before)) c
    after-core c e = call-as-core here e ∙ (λ i. core_call ((lent-as-core (new_table o) before l).table i) c)

    ends : (b store : List ℕ) → m.call ≡ taking b store → (m.event ≡ take_event b store Done) ↔ Ends o (history_of before) b store
    ends b store e =
        let x = ap (λ (n : LentCall). n.event) (after-core (taking b store) e) in
        let core = (demand3 o (calls_of before ++ (taking b store ∷ [])) listed).ends (calls_of before) [] b store refl in (
          λ d. subst⁻¹ (λ (h : History). Ends o h b store) (says before l) (core.0 (take-answer b store _ _ (sym x ∙ d))),
          λ n. x ∙ ap (take_event b store) (core.1 (subst (λ (h : History). Ends o h b store) (says before l) n)),
        )

    frame : (b store : List ℕ) → m.call ≡ taking b store → LentTakeFrame (table_after (new_table o) before) b store m
    frame b store e =
        let t = table_after (new_table o) before in
        let x = call-as-core here e in
        let core = (demand3 o (calls_of before ++ (taking b store ∷ [])) listed).frame (calls_of before) [] b store refl in
        let f = subst⁻¹ (λ (u : Table). TakeFrame u b store) (lent-as-core (new_table o) before l).table core in
        record {
          others = λ u ne. ap (λ (n : LentCall). state_at n.table u) x ∙ f.others u ne;
          left = take_store t b store;
          is_left = ap (λ (n : LentCall). n.store) x;
          size = f.size;
          bytes = f.bytes;
        }

    unchanged : 0 < event_number m.event → LentUnchanged (table_after (new_table o) before) m
    unchanged refused =
        let x = leaves-as-core (table_after (new_table o) before) m here in
        let core = (demand3 o (calls_of before ++ (m.call ∷ [])) listed).unchanged (calls_of before) [] m.call refl in
        let same = subst⁻¹ (λ (u : Table). 0 < event_number (answered u m.call) → Unchanged u m.call) (lent-as-core (new_table o) before l).table core in
        let k = same (subst (λ (n : LentCall). 0 < event_number n.event) x refused) in
        record {
          table = ap (λ (n : LentCall). n.table) x ∙ k.table;
          store = ap (λ (n : LentCall). n.store) x ∙ k.store;
          out = ap (λ (n : LentCall). n.out) x ∙ k.out;
        }

    -- an opening, and pieces after it
    delivered : (q : ReadRequest) (tag : ℕ) (store₀ out : List ℕ) (mid : List Item) (b store : List ℕ) → m.call ≡ opening q tag store₀ out
        → lawful_cutting o tag q (pieces mid ++ (b ∷ [])) ≡ true
        → event_number m.event ≡ 0
        → Undisturbed tag m.table mid
        → SameStore q m.table store₀ (calls mid ++ (taking b store ∷ []))
        → Delivered q tag m.table store₀ mid b store
    delivered q tag store₀ out mid b store e c =
        let cs = calls_of before ++ (opening q tag store₀ out ∷ (calls mid ++ (taking b store ∷ []))) in
        subst⁻¹
        (λ (n : LentCall). event_number n.event ≡ 0
        → Undisturbed tag n.table mid
        → SameStore q n.table store₀ (calls mid ++ (taking b store ∷ []))
        → Delivered q tag n.table store₀ mid b store)
        (after-core (opening q tag store₀ out) e)
        (λ a u w. (demand3 o cs listed).delivery (calls_of before) [] q tag store₀ out mid b store refl a c u w)

-- ---- a stretch of a run on a table t, its last piece, and the core's word on it
module _ (t : Table) (q : ReadRequest) (tag : ℕ) (store₀ : List ℕ) (mid : List LentItem) (b store : List ℕ) (last : LentCall) (e : last.call ≡ taking b store)
    (l : Lent t (lent_calls_in mid)) (here : LeftBy (table_after t (lent_calls_in mid)) last) where
  stretch-same : LentSameStore q store₀ (lent_calls_in mid ++ (last ∷ [])) → SameStore q t store₀ (calls (items_of mid) ++ (taking b store ∷ []))
  stretch-same w =
      let whole = joins t (lent_calls_in mid) last [] (record { earlier = l; here = here; later = tt }) in
      let cs = calls-append (lent_calls_in mid) (last ∷ []) ∙ (λ i. items-calls mid i ++ (e i ∷ [])) in
      subst (SameStore q t store₀) cs (same_store q t store₀ (lent_calls_in mid ++ (last ∷ [])) whole w)

  stretch-delivered : Delivered q tag t store₀ (items_of mid) b store → LentDelivered q tag store₀ mid b store last
  stretch-delivered d =
      let table = (lent-as-core t (lent_calls_in mid) l).table ∙ ap (run t) (items-calls mid) in
      let x = call-as-core here e ∙ (λ i. core_call (table i) (taking b store)) in
      record {
        taken = items_more t mid l d.taken;
        done = ap (λ (n : LentCall). n.event) x ∙ ap (take_event b store) d.done;
        free = ap (λ (n : LentCall). state_at n.table tag) x ∙ d.free;
        left = take_store (run t (calls (items_of mid))) b store;
        is_left = ap (λ (n : LentCall). n.store) x;
        bytes = λ k h. d.bytes k h ∙ ap (λ (bs : List (List ℕ)). delivered_byte q store₀ (bs ++ (b ∷ [])) k) (items-pieces mid);
      }

pub lent-demand3 : LentDemand3Holds
lent-demand3 o ms listed l =
    let core = demand3 o (calls_of ms) listed in
    let table = (lent-as-core (new_table o) ms l).table in
    record {
      says = says o listed ms l;
      records = λ tag. ap (λ (u : Table). state_at u tag) table ∙ (core.records tag ∙ ap (λ (h : History). records_of h tag) (sym (says o listed ms l)));
      origin = ap (λ (u : Table). u.origin) table ∙ core.origin;
      valid = ap valid_table table ∙ core.valid;
      delivery = λ before rest first last q tag store₀ out mid b store cut e f a c u w.
          let s = split before first (lent_calls_in mid ++ (last ∷ rest)) cut in
          let z = splits first.table (lent_calls_in mid) last rest s.later in
          let lawful = subst⁻¹ (λ (bs : List (List ℕ)). lawful_cutting o tag q (bs ++ (b ∷ [])) ≡ true) (items-pieces mid) c in
          stretch-delivered first.table q tag store₀ mid b store last f z.earlier z.here
          (delivered o listed before s.earlier first s.here q tag store₀ out (items_of mid) b store e lawful a
          (items-undisturbed tag first.table mid z.earlier u)
          (stretch-same first.table q tag store₀ mid b store last f z.earlier z.here w));
      ends = λ before rest m b store cut e. let s = split before m rest cut in ends o listed before s.earlier m s.here b store e;
      frame = λ before rest m b store cut e. let s = split before m rest cut in frame o listed before s.earlier m s.here b store e;
      unchanged = λ before rest m cut n. let s = split before m rest cut in unchanged o listed before s.earlier m s.here n;
    }
  where
    split : (before : List LentCall) (m : LentCall) (rest : List LentCall) → ms ≡ before ++ (m ∷ rest) → Split (new_table o) before m rest
    split before m rest cut = splits (new_table o) before m rest (subst (Lent (new_table o)) cut l)
