-- The premises of delivery hold of a worked list's run, since those of the core hold of the list; so the theorem
-- `LentWorkedHold`.
use Prim.Native.Nat.{ℕ}
use mathlib.Core.Path.{◌≡◌, refl, ap, ◌∙◌, subst}
use mathlib.Core.Bool.{true}
use mathlib.Core.List.{List, [], ◌∷◌, ◌++◌}
use Rattle.reads_rules.specs.declared.request.ReadRequest.{ReadRequest}
use Rattle.reads.specs.declared.table.Table.{Table}
use Rattle.reads.specs.Tables.{new_table}
use Rattle.cuttings.specs.Lawful.{lawful_cutting}
use Rattle.reads_demands.specs.History.{Call, taking}
use Rattle.reads_demands.specs.Demand3.{next, left, run, Item, other, piece, calls, pieces, Undisturbed, or_last, SameStore}
use Rattle.reads_demands.specs.Instance.{Worked, list, after_opening, Premises, whole_worked, trimmed_worked}
use Rattle.reads_demands.proofs.Instance.{premises}
use Rattle.reads_in_place_demands.specs.LentRuns.{LentCall, core_call, core_run}
use Rattle.reads_in_place_demands.specs.LentDemand3.{lent_calls_in, pieces_in, LentUndisturbed, LentSameStore, LentDelivered}
use Rattle.reads_in_place_demands.specs.LentInstance.{core_items, lent_run, run_before, opens_read, stretch, takes_last, run_afterwards, LentPremises, LentWorkedHold}
use Rattle.reads_in_place_demands.proofs.LentRuns.{lent_runs}
use Rattle.reads_in_place_demands.proofs.LentDemand3.{lent-demand3}

core-append : (t : Table) (cs ds : List Call) → core_run t (cs ++ ds) ≡ core_run t cs ++ core_run (run t cs) ds
unfolding run
core-append t [] ds = refl
core-append t (c ∷ cs) ds = ap (λ (ms : List LentCall). core_call t c ∷ ms) (core-append (next t c) cs ds)

items-lent : (t : Table) (is : List Item) → core_run t (calls is) ≡ lent_calls_in (core_items t is)
items-lent t [] = refl
items-lent t (other c ∷ is) = ap (λ (ms : List LentCall). core_call t c ∷ ms) (items-lent (next t c) is)
items-lent t (piece b store ∷ is) = ap (λ (ms : List LentCall). core_call t (taking b store) ∷ ms) (items-lent (next t (taking b store)) is)

items-pieces : (t : Table) (is : List Item) → pieces is ≡ pieces_in (core_items t is)
items-pieces t [] = refl
items-pieces t (other c ∷ is) = items-pieces (next t c) is
items-pieces t (piece b store ∷ is) = ap (λ (bs : List (List ℕ)). b ∷ bs) (items-pieces (next t (taking b store)) is)

items-undisturbed : (tag : ℕ) (t : Table) (is : List Item) → Undisturbed tag t is → LentUndisturbed tag (core_items t is)
items-undisturbed tag t [] u = tt
items-undisturbed tag t (other c ∷ is) u = (u.0, items-undisturbed tag (next t c) is u.1)
items-undisturbed tag t (piece b store ∷ is) u = items-undisturbed tag (next t (taking b store)) is u

run-same : (q : ReadRequest) (t : Table) (last : List ℕ) (cs : List Call) → SameStore q t last cs → LentSameStore q last (core_run t cs)
run-same q t last [] s = tt
run-same q t last (c ∷ cs) s = (s.0, run-same q (next t c) (or_last last (left t c)) cs s.1)

-- the stretch, and what follows it
stretch-then : (w : Worked) (rest : List Call) → core_run (after_opening w) (calls w.between ++ rest) ≡ lent_calls_in (stretch w) ++ core_run (run (after_opening w) (calls w.between)) rest
stretch-then w rest =
    core-append (after_opening w) (calls w.between) rest
    ∙ ap (λ (ms : List LentCall). ms ++ core_run (run (after_opening w) (calls w.between)) rest) (items-lent (after_opening w) w.between)

lent-premises : (w : Worked) → Premises w → LentPremises w
lent-premises w p = record {
  listed = p.listed;
  is_lent = (lent_runs (new_table w.origin) (list w)).0;
  split =
      core-append (new_table w.origin) w.before _
      ∙ ap (λ (ms : List LentCall). run_before w ++ (opens_read w ∷ ms)) (stretch-then w (taking w.last_piece w.store ∷ w.afterwards));
  accepted = p.accepted;
  lawful = subst (λ (bs : List (List ℕ)). lawful_cutting w.origin w.tag w.read (bs ++ (w.last_piece ∷ [])) ≡ true) (items-pieces (after_opening w) w.between) p.lawful;
  undisturbed = items-undisturbed w.tag (after_opening w) w.between p.undisturbed;
  same =
      subst (LentSameStore w.read w.store₀) (stretch-then w (taking w.last_piece w.store ∷ []))
      (run-same w.read (after_opening w) w.store₀ (calls w.between ++ (taking w.last_piece w.store ∷ [])) p.same);
}

pub lent-worked : LentWorkedHold
lent-worked = record { whole = lent-premises whole_worked premises.whole; trimmed = lent-premises trimmed_worked premises.trimmed }

-- what the theorem then says of such a run
pub lent-delivered : (w : Worked) → Premises w → LentDelivered w.read w.tag w.store₀ (stretch w) w.last_piece w.store (takes_last w)
lent-delivered w k =
    let p = lent-premises w k in
    (lent-demand3 w.origin (lent_run w) p.listed p.is_lent).delivery (run_before w) (run_afterwards w) (opens_read w) (takes_last w) w.read w.tag w.store₀ w.out (stretch w) w.last_piece w.store
    p.split refl refl p.accepted p.lawful p.undisturbed p.same
