-- One call: what it makes of the table, and what its answer makes of a tag's record by the calls alone.
use Prim.Native.Nat.{ℕ, ◌+◌}
use mathlib.Core.Path.{◌≡◌, refl, ◌∙◌}
use mathlib.Core.List.{List, [], ◌∷◌, ◌++◌}
use native.Mathlib.Omega.{arith}
use lib.ListN.{length}
use Rattle.std.specs.Prelude.{Option, Some, None, Result, Ok, Err}
use Rattle.tlp.specs.declared.refusal.Refusal.{Refusal}
use Rattle.reads_rules.specs.declared.read.Read.{Read}
use Rattle.reads_rules.specs.declared.request.ReadRequest.{ReadRequest}
use Rattle.reads_rules.specs.Pieces.{piece_in}
use Rattle.reads.specs.declared.table.Table.{Table}
use Rattle.reads_answers.specs.declared.TakeAnswer.{TakeAnswer}
use Rattle.reads_answers.specs.declared.TakeAnswer.TheVariants.{More, Done, Failed, Poisoned, Unread, Refused}
use Rattle.reads.specs.Tables.{state_at, with_state}
use Rattle.reads.specs.OpenCall.{table_opened, open_call}
use Rattle.reads.specs.TakeCall.{advanced, table_given, take_call}
use Rattle.reads.specs.OtherCalls.{table_withdrawn, withdraw_call}
use Rattle.reads_demands.specs.History.{Call, opening, taking, withdrawing, asking, Event}
use Rattle.reads_demands.specs.History.{History, Change, keeps, opens, adds, closes, open_change, take_change, withdraw_change, event_tag, event_change, change}
use Rattle.reads_demands.specs.History.{request_after, open_request, pieces_after, taken_pieces, doublewords, record_from, records_of}
use Rattle.reads_demands.specs.Demand3.{next, answered}
use Rattle.reads_demands.proofs.OneTake.{take-table}

-- what a change makes of a record
abbrev pub after_change : Change → Option Read → Option Read
after_change keeps x = x
after_change (opens q) x = Some (record { request = q; taken = 0 })
after_change (adds b) x = advanced x (piece_in b).length
after_change closes x = None

-- ---- by the calls alone

pub doublewords-end : (bs : List (List ℕ)) (b : List ℕ) → doublewords (bs ++ (b ∷ [])) ≡ doublewords bs + (piece_in b).length
unfolding doublewords
doublewords-end [] b = omega arith
doublewords-end (x ∷ bs) b = rw (doublewords-end bs b) (omega arith)

record-change : (c : Change) (r : Option ReadRequest) (bs : List (List ℕ))
    → record_from (request_after c r) (doublewords (pieces_after c bs)) ≡ after_change c (record_from r (doublewords bs))
unfolding doublewords
record-change keeps r bs = refl
record-change (opens q) r bs = refl
record-change (adds b) None bs = refl
record-change (adds b) (Some q) bs = rw (doublewords-end bs b)
record-change closes r bs = refl

pub record-step : (e : Event) (h : History) (u : ℕ) → records_of (e ∷ h) u ≡ after_change (change u e) (records_of h u)
unfolding records_of open_request taken_pieces
record-step e h u = record-change (change u e) (open_request u h) (taken_pieces u h)

-- ---- the table

-- the table after a change of a tag's record
abbrev pub moved : Change → Table → ℕ → Table
moved keeps t tag = t
moved (opens q) t tag = with_state t tag (after_change (opens q) (state_at t tag))
moved (adds b) t tag = with_state t tag (after_change (adds b) (state_at t tag))
moved closes t tag = with_state t tag None

open-moved : (x : Result ℕ Refusal) (t : Table) (q : ReadRequest) (tag : ℕ) → table_opened x t q tag ≡ moved (open_change q x) t tag
open-moved (Ok size) t q tag = refl
open-moved (Err n) t q tag = refl

given-moved : (x : TakeAnswer) (t : Table) (b : List ℕ) → table_given x t (piece_in b) ≡ moved (take_change b x) t (piece_in b).header.tag
given-moved More t b = refl
given-moved Done t b = refl
given-moved (Failed status) t b = refl
given-moved Poisoned t b = refl
given-moved (Unread r) t b = refl
given-moved (Refused n) t b = refl

withdraw-moved : (x : Result Unit Refusal) (t : Table) (tag : ℕ) → table_withdrawn x t tag ≡ moved (withdraw_change x) t tag
withdraw-moved (Ok u) t tag = refl
withdraw-moved (Err n) t tag = refl

pub next-moved : (t : Table) (c : Call) → next t c ≡ moved (event_change (answered t c)) t (event_tag (answered t c))
next-moved t (opening q tag store out) = unfold open_call in open-moved (open_call t q tag (length store) (length out)).answer t q tag
next-moved t (taking b store) = take-table t b (length store) (take_call t b (length store)).answer refl ∙ given-moved (take_call t b (length store)).answer t b
next-moved t (withdrawing tag) = unfold withdraw_call in withdraw-moved (withdraw_call t tag).answer t tag
next-moved t asking = refl
