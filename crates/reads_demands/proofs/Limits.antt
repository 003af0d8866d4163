-- A tag's record in a table, for any limit of tags that the table has room for.
use Prim.Native.Nat.{ℕ, ◌*◌, ◌/◌, ◌≤◌, ◌<◌}
use mathlib.Core.Path.{◌≡◌, sym, ◌∙◌}
use mathlib.Core.Logic.{◌⊎◌, inl, inr, ◌≢◌}
use mathlib.Core.Bool.{true, false}
use native.Mathlib.Omega.{arith}
use lib.Dec.{ltb, eqb}
use lib.ListN.{length, length-replicate}
use borrow.Author.Tests.{ltb-true, ltb-false, eqb-true, eqb-false}
use Rattle.std.specs.Prelude.{Option, None}
use Rattle.bits.specs.Choice.{pick}
use Rattle.reads_rules.specs.declared.read.Read.{Read}
use Rattle.reads_rules.specs.declared.origin.Origin.{Origin}
use Rattle.reads_words.specs.Capacity.{capacity}
use Rattle.reads_words.specs.Words.{clear_read}
use Rattle.reads_slots.specs.Inner.Fits.{FitsIn}
use Rattle.reads_slots.proofs.RecordLaws.{length-opened, length-words, record-empty, record_freed, record_same, below_in, below-over, below_free, below-fits, below_other}
use Rattle.reads.specs.declared.table.Table.{Table}
use Rattle.reads.proofs.TableLaws.{limit-fits}
use Rattle.reads.specs.Tables.{tag_limit, new_table, state_at, with_state}
use Rattle.reads_demands.proofs.Tests.{true-or-false}

-- the limit of a table's tags
abbrev pub limit_of : Table → ℕ
limit_of t = tag_limit t.origin.settings

-- the lists of a table are as long as its arrays
pub record Sized (t : Table) : Type 0 where
  pub of_set : length t.opened ≡ capacity / 64
  pub of_words : length t.words ≡ 4 * capacity

pub size-new : (o : Origin) → Sized (new_table o)
unfolding new_table
size-new o = record { of_set = length-replicate {A = ℕ} (capacity / 64) 0; of_words = length-replicate {A = ℕ} (4 * capacity) 0 }

pub state-over : (t : Table) (u : ℕ) → limit_of t ≤ u → state_at t u ≡ None
unfolding state_at
state-over t u h = below-over (limit_of t) t.opened t.words u h

pub state-new : (o : Origin) (u : ℕ) → state_at (new_table o) u ≡ None
unfolding new_table state_at
state-new o u = below_free (tag_limit o.settings) (new_table o).opened (new_table o).words u (record-empty (capacity / 64) u (new_table o).words)

-- the record that a table has of a tag fits its words
pub state-fits : (t : Table) (u : ℕ) → FitsIn (state_at t u)
unfolding state_at
state-fits t u = below-fits (limit_of t) t.opened t.words u

-- a tag that is freed is free, in a table of any size
pub state-freed : (t : Table) (u : ℕ) → state_at (with_state t u None) u ≡ None
unfolding state_at with_state
state-freed t u = below_free (limit_of t) _ _ u (record_freed t.opened (clear_read t.words u) u)

-- ---- one record set

module _ (t : Table) (u : ℕ) (x : Option Read) where
  pub size-with : Sized t → Sized (with_state t u x)
  unfolding with_state
  size-with l = record { of_set = length-opened t.opened u x ∙ l.of_set; of_words = length-words t.words u x ∙ l.of_words }

  pub state-with-other : (v : ℕ) → u ≢ v → state_at (with_state t u x) v ≡ state_at t v
  unfolding state_at with_state
  state-with-other v h = below_other (limit_of t) t.opened t.words u x v (λ e. h (sym e))

  -- a tag below the limit
  pub state-with-same : Sized t → u < limit_of t → FitsIn x → state_at (with_state t u x) u ≡ x
  unfolding state_at with_state
  state-with-same l h f =
      let k = limit-fits t.origin.settings in
      below_in (limit_of t) _ _ u h ∙ record_same t.opened t.words u x (omega arith) l.of_set l.of_words f

  pub state-with : Sized t → FitsIn x → (limit_of t ≤ u → x ≡ None) → (v : ℕ) → state_at (with_state t u x) v ≡ pick (eqb u v) x (state_at t v)
  state-with l fit f v = go (true-or-false (eqb u v)) (true-or-false (ltb u (limit_of t)))
    where
      go : (eqb u v ≡ true) ⊎ (eqb u v ≡ false) → (ltb u (limit_of t) ≡ true) ⊎ (ltb u (limit_of t) ≡ false) → state_at (with_state t u x) v ≡ pick (eqb u v) x (state_at t v)
      go (inl e) (inl h) = rw (e, ← (eqb-true u v e)) (state-with-same l (ltb-true u (limit_of t) h) fit)
      go (inl e) (inr h) =
          let k : limit_of t ≤ u = ltb-false u (limit_of t) h in
          rw (e, ← (eqb-true u v e)) (state-over (with_state t u x) u (unfold with_state in k) ∙ sym (f k))
      go (inr e) k = rw e (state-with-other v (eqb-false u v e))
