-- Laws of the table and of withdraw, in the words of the returns.
use Prim.Native.Nat.{ℕ, ◌*◌, ◌/◌, ◌≤◌}
use mathlib.Core.Path.{◌≡◌}
use mathlib.Core.Bool.{Bool, true}
use mathlib.Core.List.{List}
use native.Mathlib.Omega.{arith}
use Rattle.std.specs.Prelude.{Option, None, Result, Ok, Err}
use Rattle.scans.specs.Belows.{all_below, any_below, sum_below}
use Rattle.tlp.specs.Rows.{first}
use Rattle.tlp.specs.Refusals.{checked}
use Rattle.tlp.specs.declared.refusal.Refusal.{Refusal}
use Rattle.tlp.specs.Settings.{settings_listed}
use Rattle.tlp.specs.declared.settings.Settings.{Settings}
use Rattle.reads_rules.specs.declared.read.Read.{Read}
use Rattle.reads_rules.specs.declared.origin.Origin.{Origin}
use Rattle.reads_rules.specs.declared.request.ReadRequest.{ReadRequest}
use Rattle.reads_words.specs.Capacity.{capacity}
use Rattle.reads_slots.specs.Records.{state_below, opened_with, words_with, valid_at, shares_at, owed_at}
use Rattle.reads_words.proofs.SetLaws.{without-empty}
use Rattle.reads_words.proofs.WordLaws.{clear-zeros}
use Rattle.reads_slots.proofs.RecordLaws.{opened-order, words-order, opened-last, words_last}
use Rattle.reads.specs.declared.table.Table.{Table}
use Rattle.reads.specs.Tables.{tag_limit, new_table, table_of, state_at, with_state, valid_table, shares_open, owed_sum}
use Rattle.reads.specs.OtherCalls.{withdraw_rows, withdraw_call}

-- there is room for more tags than may be opened
pub limit-fits : (settings : Settings) → tag_limit settings ≤ capacity
unfolding tag_limit
limit-fits settings = omega arith

-- ---- what a call looks at, from what was lent

module _ (o : Origin) (opened words : List ℕ) where
  pub valid_seen : (n : ℕ) (b : Bool) → n ≡ tag_limit o.settings → b ≡ all_below n (valid_at o.settings n opened words) → settings_listed o.settings ≡ true → b ≡ valid_table (table_of o opened words)
  unfolding valid_table valid_at state_at
  valid_seen n b e q m = rw (q, m, e)

  module _ (n : ℕ) (e : n ≡ tag_limit o.settings) where
    pub state_seen : (tag : ℕ) (x : Option Read) → x ≡ state_below n opened words tag → x ≡ state_at (table_of o opened words) tag
    unfolding state_at
    state_seen tag x h = rw e at h

    pub shares-seen : (q : ReadRequest) (r : Bool) → r ≡ any_below n (shares_at q n opened words) → r ≡ shares_open (table_of o opened words) q
    unfolding shares_open shares_at state_at
    shares-seen q r h = rw e at h

    pub owed_seen : (m : ℕ) → m ≡ sum_below n (owed_at n opened words) → m ≡ owed_sum (table_of o opened words)
    unfolding owed_sum owed_at state_at
    owed_seen m h = rw e at h

-- the records of two tags, in either order
pub with-order : (t : Table) (u v : ℕ) (x y : Option Read) → (u ≡ v → ⊥) → with_state (with_state t u x) v y ≡ with_state (with_state t v y) u x
unfolding with_state
with-order t u v x y n = rw (opened-order u v n t.opened x y, words-order u v n t.words x y)

-- the record of one tag twice: the last counts
pub with-last : (t : Table) (u : ℕ) (x y : Option Read) → with_state (with_state t u x) u y ≡ with_state t u y
unfolding with_state
with-last t u x y = rw (opened-last u t.opened x y, words_last u t.words x y)

-- a free tag freed in a new table
pub new-freed : (o : Origin) (u : ℕ) → with_state (new_table o) u None ≡ new_table o
unfolding with_state new_table
new-freed o u = rw (without-empty (capacity / 64) u, clear-zeros (4 * capacity) u)

-- ---- withdraw

module _ (o : Origin) (opened words : List ℕ) (tag : ℕ) (d : Result Unit Refusal) (e : d ≡ checked (first (withdraw_rows (table_of o opened words) tag))) where
  pub withdraw-done : (u : Unit {0}) (opened' words' : List ℕ) → d ≡ Ok u → opened' ≡ opened_with opened tag None → words' ≡ words_with words tag None
      → record { table = table_of o opened' words'; answer = Ok tt } ≡ withdraw_call (table_of o opened words) tag
  unfolding withdraw_call with_state
  withdraw-done u opened' words' h l m = rw (l, m, ← e, h)

  pub withdraw-kept : (r : Refusal) → d ≡ Err r → record { table = table_of o opened words; answer = Err r } ≡ withdraw_call (table_of o opened words) tag
  unfolding withdraw_call
  withdraw-kept r h = rw (← e, h)

pub ruleset withdraw-laws = (withdraw-done, withdraw-kept)
