-- Document 01: "the bench shell lends one table, changed in place by thin calls". What each call answers, and leaves
-- in the table and in what else is lent to it to change: what the core makes of the table as it was, refused calls
-- included. A reader must believe all four: the contracts state these, and `reads_in_place_demands` builds its runs
-- of them.
use Rattle.std.specs.Prelude.{ℕ, ◌≡◌, List, length, Result}
use Rattle.tlp.specs.declared.refusal.Refusal.{Refusal}
use Rattle.reads_answers.specs.declared.TakeAnswer.{TakeAnswer}
use Rattle.reads_rules.specs.declared.request.ReadRequest.{ReadRequest}
use Rattle.reads.specs.declared.table.Table.{Table}
use Rattle.reads.specs.OpenCall.{open_call, open_out}
use Rattle.reads.specs.TakeCall.{take_call, take_store}
use Rattle.reads.specs.OtherCalls.{withdraw_call, owed_call}

-- of a table t lent to `open`, with the output lent beside it; the store is only read
abbrev pub OpenLeaves : Table → ReadRequest → ℕ → List ℕ → List ℕ → Result ℕ Refusal → Table → List ℕ → Type 0
OpenLeaves t q tag store out answer t' out' =
    (record { table = t'; answer = answer } ≡ open_call t q tag (length store) (length out))
    × (out' ≡ open_out t q tag (length store) out)

-- to `take`, with the store lent beside it; the packet's bytes are only read
abbrev pub TakeLeaves : Table → List ℕ → List ℕ → TakeAnswer → Table → List ℕ → Type 0
TakeLeaves t bytes store answer t' store' =
    (record { table = t'; answer = answer } ≡ take_call t bytes (length store))
    × (store' ≡ take_store t bytes store)

abbrev pub WithdrawLeaves : Table → ℕ → Result Unit Refusal → Table → Type 0
WithdrawLeaves t tag answer t' = record { table = t'; answer = answer } ≡ withdraw_call t tag

-- `owed` only reads the table
abbrev pub OwedLeaves : Table → Result ℕ Refusal → Type 0
OwedLeaves t answer = answer ≡ owed_call t
