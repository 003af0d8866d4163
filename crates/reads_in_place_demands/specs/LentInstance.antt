-- Delivery on a lent table, so that its premises are seen to hold together: both lists that are worked in Instance of
-- crate reads_demands, as runs. The theorem is a `LentWorkedHold`, proved in proofs/LentInstance; no promise cites this
-- file.
use Rattle.std.specs.Prelude.{◌≡◌, refl, true, List, [], ◌∷◌, ◌++◌}
use Rattle.tlp.specs.Settings.{settings_listed}
use Rattle.reads.specs.declared.table.Table.{Table}
use Rattle.reads.specs.Tables.{new_table}
use Rattle.cuttings.specs.Lawful.{lawful_cutting}
use Rattle.reads_demands.specs.History.{opening, taking}
use Rattle.reads_demands.specs.Demand3.{next, run, reached, event_number, Item, calls}
use Rattle.reads_demands.specs.Demand3.{other as other_item, piece as piece_item}
use Rattle.reads_demands.specs.Instance.{Worked, list, after_opening, whole_worked, trimmed_worked}
use Rattle.reads_in_place_demands.specs.LentRuns.{LentCall, Lent, core_call, core_run}
use Rattle.reads_in_place_demands.specs.LentDemand3.{LentItem, other, piece, lent_calls_in, pieces_in}
use Rattle.reads_in_place_demands.specs.LentDemand3.{LentUndisturbed, LentSameStore}

-- a stretch, as the core makes its calls
abbrev pub core_items : Table → List Item → List LentItem
core_items t [] = []
core_items t (other_item c ∷ is) = other (core_call t c) ∷ core_items (next t c) is
core_items t (piece_item b store ∷ is) =
    piece b store (core_call t (taking b store)) refl ∷ core_items (next t (taking b store)) is

-- the run, and its parts: before, opening, the stretch between, last piece and afterwards
abbrev pub lent_run : Worked → List LentCall
lent_run w = core_run (new_table w.origin) (list w)

abbrev pub run_before : Worked → List LentCall
run_before w = core_run (new_table w.origin) w.before

abbrev pub opens_read : Worked → LentCall
opens_read w = core_call (reached w.origin w.before) (opening w.read w.tag w.store₀ w.out)

abbrev pub stretch : Worked → List LentItem
stretch w = core_items (after_opening w) w.between

abbrev pub takes_last : Worked → LentCall
takes_last w = core_call (run (after_opening w) (calls w.between)) (taking w.last_piece w.store)

abbrev pub run_afterwards : Worked → List LentCall
run_afterwards w = core_run (takes_last w).table w.afterwards

-- every premise of `delivery` in LentDemand3 but two, which hold by definition: what `(opens_read w).call` and
-- `(takes_last w).call` are, there the equations of `first.call` and `last.call`
pub record LentPremises (w : Worked) : Type 0 where
  pub listed : settings_listed w.origin.settings ≡ true
  pub is_lent : Lent (new_table w.origin) (lent_run w)
  pub split : lent_run w ≡ run_before w ++ (opens_read w ∷ (lent_calls_in (stretch w) ++ (takes_last w ∷ run_afterwards w)))
  pub accepted : event_number (opens_read w).event ≡ 0
  pub lawful : lawful_cutting w.origin w.tag w.read (pieces_in (stretch w) ++ (w.last_piece ∷ [])) ≡ true
  pub undisturbed : LentUndisturbed w.tag (stretch w)
  pub same : LentSameStore w.read w.store₀ (lent_calls_in (stretch w) ++ (takes_last w ∷ []))

-- the theorem
pub record LentWorkedHold : Type 0 where
  pub whole : LentPremises whole_worked
  pub trimmed : LentPremises trimmed_worked
