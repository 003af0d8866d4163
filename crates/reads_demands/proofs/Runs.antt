-- Tables that calls reach from a new one: what holds of each, and a tag's record after a call.
use Prim.Native.Nat.{ℕ, ◌+◌, ◌<◌}
use mathlib.Core.Path.{◌≡◌, refl, sym, ap, ◌∙◌}
use mathlib.Core.Logic.{◌⊎◌, inl, inr, ◌≢◌}
use mathlib.Core.Bool.{Bool, true, false, and_comm, and-eq-true_iff}
use mathlib.Core.List.{List, ◌++◌}
use native.Mathlib.Omega.{arith}
use lib.Dec.{eqb, ltb}
use borrow.Author.Tests.{eqb-true, eqb-false, ne_eqb, lt-ltb}
use Rattle.std.specs.Prelude.{Option, Some, None}
use Rattle.bits.specs.Choice.{pick}
use Rattle.scans.proofs.BelowLaws.{all-empty}
use Rattle.tlp.specs.Rows.{first}
use Rattle.tlp.specs.Settings.{settings_listed}
use Rattle.tlp.specs.declared.settings.Settings.{Settings}
use Rattle.reads_rules.specs.declared.read.Read.{Read}
use Rattle.reads_rules.specs.declared.origin.Origin.{Origin}
use Rattle.reads_rules.specs.Requests.{request_rows}
use Rattle.reads_rules.specs.Windows.{store_limit, window_end, place_rows, shares_byte}
use Rattle.reads_rules.specs.Validity.{valid_read}
use Rattle.reads_rules.specs.Pieces.{piece_in}
use Rattle.reads_slots.specs.Slots.{valid_state, shares_in}
use Rattle.reads_slots.specs.Inner.Fits.{FitsIn}
use Rattle.reads_slots.proofs.RecordLaws.{free-fits, open-fits}
use Rattle.reads.specs.declared.table.Table.{Table}
use Rattle.reads.specs.TakeCall.{advanced}
use Rattle.reads.specs.Tables.{tag_limit, new_table, state_at, with_state, valid_table}
use Rattle.reads_demands.specs.History.{Call, Event, Change, keeps, opens, adds, closes, event_tag, event_change, change}
use Rattle.reads_demands.specs.Demand3.{next, answered}
use Rattle.reads_demands.proofs.Tests.{true-or-false}
use Rattle.reads_demands.proofs.Limits.{limit_of, Sized, state-over, state-new}
use Rattle.reads_demands.proofs.Limits.{state-fits, size-new, size-with, state-with}
use Rattle.reads_demands.proofs.Steps.{after_change, moved, next-moved}
use Rattle.reads_demands.proofs.Accepted.{FairAdd, Fair, fair, fair-at}

-- whether two records' windows share a byte
abbrev pub shares_states : Option Read → Option Read → Bool
shares_states None y = false
shares_states (Some r) y = shares_in r.request y

-- what holds of a table made from o with listed settings, whatever calls it has met
pub record Sound (o : Origin) (t : Table) : Type 0 where
  pub listed : settings_listed o.settings ≡ true
  pub origin : t.origin ≡ o
  pub size : Sized t
  pub states : (u : ℕ) → valid_state o.settings (state_at t u) ≡ true
  pub disjoint : (u v : ℕ) → u ≢ v → shares_states (state_at t u) (state_at t v) ≡ false

pub sound-new : (o : Origin) → settings_listed o.settings ≡ true → Sound o (new_table o)
sound-new o k =
    record {
      listed = k;
      origin = unfold new_table in refl;
      size = size-new o;
      states = λ u. rw (state-new o u);
      disjoint = λ u v h. rw (state-new o u);
    }

-- ---- a tag's record after a call

at_tag : (t : Table) (tag u : ℕ) (c : Change) (b : Bool) → eqb tag u ≡ b → pick b (after_change c (state_at t tag)) (state_at t u) ≡ after_change (pick b c keeps) (state_at t u)
at_tag t tag u c true e = rw (eqb-true tag u e)
at_tag t tag u c false e = refl

state-kept : (b : Bool) (x : Option Read) → x ≡ after_change (pick b keeps keeps) x
state-kept true x = refl
state-kept false x = refl

-- what an event leaves of a record fits its words
fits_more : (x : Option Read) (n : ℕ) → FitsIn x → FitsIn (advanced x n)
fits_more None n h = h
fits_more (Some r) n h = open-fits r.request (r.taken + n) (h r refl)

pub fits_after : (t : Table) (tag : ℕ) (c : Change) → Fair t tag c → FitsIn (after_change c (state_at t tag))
fits_after t tag keeps f = state-fits t tag
fits_after t tag (opens q) f = open-fits q 0 f.fits
fits_after t tag (adds b) f = fits_more (state_at t tag) (piece_in b).length (state-fits t tag)
fits_after t tag closes f = free-fits

state-moved : (t : Table) (tag : ℕ) (c : Change) → Sized t → Fair t tag c → (u : ℕ)
    → state_at (moved c t tag) u ≡ after_change (pick (eqb tag u) c keeps) (state_at t u)
state-moved t tag keeps l f u = state-kept (eqb tag u) (state_at t u)
state-moved t tag (opens q) l f u =
    state-with t tag _ l (fits_after t tag (opens q) f) (λ h. let k : tag < limit_of t = f.within in absurd (omega arith)) u ∙ at_tag t tag u (opens q) (eqb tag u) refl
state-moved t tag (adds b) l f u = state-with t tag _ l (fits_after t tag (adds b) f) (λ h. rw (state-over t tag h)) u ∙ at_tag t tag u (adds b) (eqb tag u) refl
state-moved t tag closes l f u = state-with t tag None l (fits_after t tag closes tt) (λ h. refl) u ∙ at_tag t tag u closes (eqb tag u) refl

state-change : (t : Table) → Sized t → (c : Call) (u : ℕ) → state_at (next t c) u ≡ after_change (change u (answered t c)) (state_at t u)
unfolding change
state-change t l c u = rw (next-moved t c) (state-moved t (event_tag (answered t c)) (event_change (answered t c)) l (fair t c) u)

module _ {o : Origin} {t : Table} (g : Sound o t) where
  pub state-next : (c : Call) (u : ℕ) → state_at (next t c) u ≡ after_change (change u (answered t c)) (state_at t u)
  state-next c u = state-change t g.size c u

  -- the windows of two open tags share no byte
  pub apart : (u v : ℕ) → u ≢ v → (r r₂ : Read) → state_at t u ≡ Some r → state_at t v ≡ Some r₂
      → shares_byte r.request r₂.request ≡ false
  apart u v h r r₂ e f = rw (e, f) at (g.disjoint u v h)

-- ---- what holds is kept

moved-origin : (c : Change) (t : Table) (tag : ℕ) → (moved c t tag).origin ≡ t.origin
unfolding with_state
moved-origin keeps t tag = refl
moved-origin (opens q) t tag = refl
moved-origin (adds b) t tag = refl
moved-origin closes t tag = refl

moved-size : (c : Change) (t : Table) (tag : ℕ) → Sized t → Sized (moved c t tag)
moved-size keeps t tag l = l
moved-size (opens q) t tag l = size-with t tag _ l
moved-size (adds b) t tag l = size-with t tag _ l
moved-size closes t tag l = size-with t tag _ l

-- the read that a piece adds to
pub adds-to : (t : Table) (u : ℕ) (b : List ℕ) (f : FairAdd t u b) → state_at t u ≡ Some f.read
adds-to t u b f = rw f.named at f.met.is_open

valid-later : (settings : Settings) (r : Read) (p : ℕ) → valid_read settings r ≡ true → p < r.request.access.length
    → valid_read settings (record { request = r.request; taken = p }) ≡ true
unfolding valid_read
valid-later settings r p e h =
    let a = (and-eq-true_iff (eqb (first (request_rows r.request ++ place_rows settings r.request store_limit)) 0) (ltb r.taken r.request.access.length)).0 e in
    rw (a.0, lt-ltb p r.request.access.length h)

valid-after : (settings : Settings) (t : Table) (u : ℕ) (c : Change) → t.origin.settings ≡ settings → Fair t u c
    → valid_state settings (state_at t u) ≡ true
    → valid_state settings (after_change c (state_at t u)) ≡ true
valid-after settings t u keeps k f e = e
valid-after settings t u (opens q) k f e = rw k at f.fine
valid-after settings t u (adds b) k f e =
    rw (adds-to t u b f) (valid-later settings f.read _ (rw (adds-to t u b f) at e) f.below)
valid-after settings t u closes k f e = refl

shares-sym : (x y : Option Read) → shares_states x y ≡ shares_states y x
unfolding shares_byte
shares-sym None None = refl
shares-sym None (Some r₂) = refl
shares-sym (Some r) None = refl
shares-sym (Some r) (Some r₂) =
    and_comm (ltb r.request.start (window_end r₂.request)) (ltb r₂.request.start (window_end r.request))

shares-after : (t : Table) (u : ℕ) (c : Change) → Fair t u c → (v : ℕ) → shares_states (state_at t u) (state_at t v) ≡ false
    → shares_states (after_change c (state_at t u)) (state_at t v) ≡ false
shares-after t u keeps f v e = e
shares-after t u (opens q) f v e = f.clear v
shares-after t u (adds b) f v e = rw (adds-to t u b f) (rw (adds-to t u b f) at e)
shares-after t u closes f v e = refl

change-other : (e : Event) (u : ℕ) → event_tag e ≢ u → change u e ≡ keeps
unfolding change
change-other e u h = rw (ne_eqb (event_tag e) u h)

-- an event changes one tag's record at most
disjoint-after : (t : Table) (e : Event) → ((u : ℕ) → Fair t u (change u e)) → (u v : ℕ) → u ≢ v → shares_states (state_at t u) (state_at t v) ≡ false
    → shares_states (after_change (change u e) (state_at t u)) (after_change (change v e) (state_at t v)) ≡ false
disjoint-after t e f u v h k = go (true-or-false (eqb (event_tag e) u))
  where
    go : (eqb (event_tag e) u ≡ true) ⊎ (eqb (event_tag e) u ≡ false)
        → shares_states (after_change (change u e) (state_at t u)) (after_change (change v e) (state_at t v)) ≡ false
    go (inl a) = rw (change-other e v (λ b. h (sym (eqb-true (event_tag e) u a) ∙ b))) (shares-after t u (change u e) (f u) v k)
    go (inr a) =
        rw (change-other e u (eqb-false (event_tag e) u a), shares-sym (state_at t u) (after_change (change v e) (state_at t v)))
        (shares-after t v (change v e) (f v) u (shares-sym (state_at t v) (state_at t u) ∙ k))

module _ {o : Origin} {t : Table} (g : Sound o t) where
  pub sound-next : (c : Call) → Sound o (next t c)
  sound-next c =
      record {
        listed = g.listed;
        origin = rw (next-moved t c) (moved-origin ch t tag ∙ g.origin);
        size = rw (next-moved t c) (moved-size ch t tag g.size);
        states = λ u. rw (state-next g c u) (valid-after o.settings t u (change u (answered t c)) (ap (λ (x : Origin). x.settings) g.origin) (fair-at t c u) (g.states u));
        disjoint = λ u v h. rw (state-next g c u, state-next g c v) (disjoint-after t (answered t c) (fair-at t c) u v h (g.disjoint u v h));
      }
    where
      ch : Change
      ch = event_change (answered t c)

      tag : ℕ
      tag = event_tag (answered t c)

-- ---- a reached table is valid

module _ {o : Origin} {t : Table} (g : Sound o t) where
  pub limit-of : limit_of t ≡ tag_limit o.settings
  limit-of = ap (λ (x : Origin). tag_limit x.settings) g.origin

  pub sound-valid : valid_table t ≡ true
  unfolding valid_table
  sound-valid = rw here (all-empty (λ u. valid_state t.origin.settings (state_at t u)) (limit_of t) (λ u h. state-valid u))
    where
      here : settings_listed t.origin.settings ≡ true
      here = ap (λ (x : Origin). settings_listed x.settings) g.origin ∙ g.listed

      state-valid : (u : ℕ) → valid_state t.origin.settings (state_at t u) ≡ true
      state-valid u = ap (λ (x : Origin). valid_state x.settings (state_at t u)) g.origin ∙ g.states u
