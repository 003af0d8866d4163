-- A table reached from a new one is the new one with its records put in.
use Prim.Native.Nat.{ℕ, zero, suc, ◌≤◌, ◌<◌}
use mathlib.Core.Path.{◌≡◌, refl, sym, ap, ◌∙◌}
use mathlib.Core.Bool.{Bool, true, false}
use mathlib.Core.List.{List, [], ◌∷◌}
use native.Mathlib.Omega.{arith}
use lib.Dec.{eqb, ltb}
use borrow.Author.Tests.{eqb-true, eqb-false, ne_eqb, ltb-true, ltb-false}
use Rattle.std.specs.Prelude.{Option, None}
use Rattle.bits.specs.Choice.{pick}
use Rattle.reads_rules.specs.declared.read.Read.{Read}
use Rattle.reads_rules.specs.declared.origin.Origin.{Origin}
use Rattle.reads_slots.specs.Inner.Fits.{FitsIn}
use Rattle.reads.specs.declared.table.Table.{Table}
use Rattle.reads.specs.Tables.{tag_limit, new_table, state_at, with_state}
use Rattle.reads.proofs.TableLaws.{with-order, with-last, new-freed}
use Rattle.reads_demands.specs.History.{Call, Change, keeps, opens, adds, closes, Records, event_tag, event_change}
use Rattle.reads_demands.specs.Demand3.{next, answered, run}
use Rattle.reads_demands.specs.OneForm.{holding, OneForm, SameRecords}
use Rattle.reads_demands.proofs.Limits.{limit_of, Sized, state-over, state-new, state-with}
use Rattle.reads_demands.proofs.Steps.{moved, next-moved}
use Rattle.reads_demands.proofs.Accepted.{Fair, fair}
use Rattle.reads_demands.proofs.Runs.{Sound, sound-new, sound-next, limit-of, fits_after}
use Rattle.reads_demands.proofs.Demand3.{demand3}

module _ (o : Origin) where
  holding-same : (n : ℕ) (r r₂ : Records) → ((u : ℕ) → u < n → r u ≡ r₂ u) → holding o n r ≡ holding o n r₂
  unfolding holding
  holding-same zero r r₂ h = refl
  holding-same (suc n) r r₂ h = rw (holding-same n r r₂ (λ u k. h u (omega arith)), h n (omega arith))

  holding-none : (n : ℕ) (r : Records) → ((u : ℕ) → u < n → r u ≡ None) → holding o n r ≡ new_table o
  unfolding holding
  holding-none zero r h = refl
  holding-none (suc n) r h = rw (holding-none n r (λ u k. h u (omega arith)), h n (omega arith)) (new-freed o n)

  -- a tag past the records put in, freed
  holding-freed : (n : ℕ) (r : Records) (u : ℕ) → n ≤ u → with_state (holding o n r) u None ≡ holding o n r
  unfolding holding
  holding-freed zero r u h = new-freed o u
  holding-freed (suc n) r u h = with-order (holding o n r) n u (r n) None (λ e. omega arith) ∙ rw (holding-freed n r u (omega arith))

  -- one of the records put in again
  holding-with : (n : ℕ) (r : Records) (u : ℕ) (x : Option Read) → u < n → with_state (holding o n r) u x ≡ holding o n (λ v. pick (eqb u v) x (r v))
  unfolding holding
  holding-with zero r u x h = absurd (omega arith)
  holding-with (suc n) r u x h = go (eqb u n) refl (holding-with n r u x)
    where
      go : (b : Bool) → eqb u n ≡ b → (u < n → with_state (holding o n r) u x ≡ holding o n (λ v. pick (eqb u v) x (r v)))
          → with_state (with_state (holding o n r) n (r n)) u x ≡ with_state (holding o n (λ v. pick (eqb u v) x (r v))) n (pick b x (r n))
      go true e i =
          let q = eqb-true u n e in
          rw (← q, with-last (holding o u r) u (r u) x)
          (ap (λ (t : Table). with_state t u x) (holding-same u r (λ v. pick (eqb u v) x (r v)) (λ v k. sym (rw (ne_eqb u v (λ z. omega arith))))))
      go false e i =
          let d = eqb-false u n e in
          with-order (holding o n r) n u (r n) x (λ z. d (sym z)) ∙ ap (λ (t : Table). with_state t n (r n)) (i (omega arith))

  -- ---- a table that is made of its records stays so

  abbrev Formed : Table → Type 0
  Formed t = t ≡ holding o (tag_limit o.settings) (state_at t)

  with-formed : (t : Table) (u : ℕ) (x : Option Read) → limit_of t ≡ tag_limit o.settings → Sized t → FitsIn x → (limit_of t ≤ u → x ≡ None) → Formed t → Formed (with_state t u x)
  with-formed t u x l size f over e = go (ltb u (tag_limit o.settings)) refl
    where
      states : (v : ℕ) → state_at (with_state t u x) v ≡ pick (eqb u v) x (state_at t v)
      states = state-with t u x size f over

      put : with_state t u x ≡ with_state (holding o (tag_limit o.settings) (state_at t)) u x
      put = ap (λ (y : Table). with_state y u x) e

      -- over the limit it is free, and was
      kept : tag_limit o.settings ≤ u → (v : ℕ) → pick (eqb u v) x (state_at t v) ≡ state_at t v
      kept h v = at (eqb u v) refl
        where
          at : (b : Bool) → eqb u v ≡ b → pick b x (state_at t v) ≡ state_at t v
          at true q = over (rw l h) ∙ sym (rw (← eqb-true u v q) (state-over t u (rw l h)))
          at false q = refl

      go : (b : Bool) → ltb u (tag_limit o.settings) ≡ b → Formed (with_state t u x)
      go true h =
          put ∙ (holding-with (tag_limit o.settings) (state_at t) u x (ltb-true u (tag_limit o.settings) h)
          ∙ holding-same (tag_limit o.settings) _ _ (λ v k. sym (states v)))
      go false h =
          let k = ltb-false u (tag_limit o.settings) h in
          put ∙ (ap (λ (y : Option Read). with_state (holding o (tag_limit o.settings) (state_at t)) u y) (over (rw l k))
          ∙ (holding-freed (tag_limit o.settings) (state_at t) u k ∙ holding-same (tag_limit o.settings) _ _ (λ v m. sym (states v ∙ kept k v))))

  moved-formed : (t : Table) (tag : ℕ) (c : Change) → limit_of t ≡ tag_limit o.settings → Sized t → Fair t tag c → Formed t → Formed (moved c t tag)
  moved-formed t tag keeps l size f e = e
  moved-formed t tag (opens q) l size f e =
      with-formed t tag _ l size (fits_after t tag (opens q) f) (λ h. let k : tag < limit_of t = f.within in absurd (omega arith)) e
  moved-formed t tag (adds b) l size f e =
      with-formed t tag _ l size (fits_after t tag (adds b) f) (λ h. rw (state-over t tag h)) e
  moved-formed t tag closes l size f e = with-formed t tag None l size (fits_after t tag closes tt) (λ h. refl) e

  next-formed : (t : Table) (c : Call) → Sound o t → Formed t → Formed (next t c)
  next-formed t c g e = rw (next-moved t c) (moved-formed t (event_tag (answered t c)) (event_change (answered t c)) (limit-of g) g.size (fair t c) e)

  run-formed : (t : Table) (cs : List Call) → Sound o t → Formed t → Formed (run t cs)
  unfolding run
  run-formed t [] g e = e
  run-formed t (c ∷ cs) g e = run-formed (next t c) cs (sound-next g c) (next-formed t c g e)

pub one_form : OneForm
one_form o cs k =
    run-formed o (new_table o) cs (sound-new o k) (sym (holding-none o (tag_limit o.settings) (state_at (new_table o)) (λ u h. state-new o u)))
    ∙ holding-same o (tag_limit o.settings) _ _ (λ u h. (demand3 o cs k).records u)

pub same-records : SameRecords
same-records o cs ds k h = one_form o cs k ∙ (holding-same o (tag_limit o.settings) _ _ h ∙ sym (one_form o ds k))
