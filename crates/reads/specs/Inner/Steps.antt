-- What the functions of open.rt and take.rt state that are not public. What is promised is open_call, open_out,
-- take_call and take_store.
use Rattle.std.specs.Prelude.{ℕ, ◌*◌, Bool, true, false, not, List, ◌∷◌, ◌++◌, leb, length, take, drop}
use Rattle.std.specs.Prelude.{Option, None, Result, Ok, Err}
use Rattle.bits.specs.Choice.{pick}
use Rattle.tlp.specs.Rows.{Row, row, first}
use Rattle.tlp.specs.Refusals.{checked}
use Rattle.tlp.specs.declared.refusal.Refusal.{Refusal}
use Rattle.tlp.specs.declared.refusal.Refusal.TheVariants.{NotACompletion, BadSetting}
use Rattle.tlp_read.specs.Read.{read_rows}
use Rattle.tlp_read.specs.Completions.{has_completion, completion_packet, completion_rows}
use Rattle.reads_rules.specs.declared.read.Read.{Read}
use Rattle.reads_rules.specs.declared.request.ReadRequest.{ReadRequest}
use Rattle.reads_rules.specs.declared.origin.Origin.{Origin}
use Rattle.reads_rules.specs.Requests.{request_rows}
use Rattle.reads_rules.specs.Windows.{place_rows}
use Rattle.reads_rules.specs.declared.piece.Piece.{Piece}
use Rattle.reads_rules.specs.Pieces.{piece_of}
use Rattle.reads_rules.specs.States.{is_open}
use Rattle.reads_answers.specs.declared.TakeAnswer.{TakeAnswer}
use Rattle.reads_answers.specs.declared.TakeAnswer.TheVariants.{More, Done, Failed, Poisoned, Unread, Refused}
use Rattle.reads_answers.specs.Takes.{read_in, piece_answer}
use Rattle.reads.specs.declared.table.Table.{Table}
use Rattle.reads.specs.declared.take.Outcome.{Outcome}
use Rattle.reads.specs.Tables.{tag_limit, state_at, valid_table, shares_open}
use Rattle.reads.specs.OpenCall.{rules_before12}
use Rattle.reads.specs.TakeCall.{advanced, store_given}

-- whether a record is stored: on acceptance alone
abbrev pub takes : TakeAnswer → Bool
takes More = true
takes Done = true
takes (Failed status) = true
takes Poisoned = true
takes (Unread r) = false
takes (Refused n) = false

-- ---- the tag's record after take's answer; x is the one before, n the completion's length

abbrev pub record_given : TakeAnswer → Option Read → ℕ → Option Read
record_given More x n = advanced x n
record_given Done x n = None
record_given (Failed status) x n = None
record_given Poisoned x n = None
record_given (Unread r) x n = x
record_given (Refused k) x n = x

-- ---- open

-- the rows before 12, which is the writer's
abbrev pub rows_before12 : Table → ReadRequest → ℕ → ℕ → List Row
rows_before12 t q tag room =
    row 11 (not (valid_table t)) ∷ rules_before12 t.origin (state_at t tag) (shares_open t q) q tag room

-- the rows before 24, with 11 first; x is the tag's record
abbrev pub rows_before24 : Bool → Origin → Option Read → ReadRequest → ℕ → ℕ → List Row
rows_before24 valid o x q tag room =
    row 11 (not valid)
    ∷ (request_rows q
    ++ (row 20 (leb (tag_limit o.settings) tag)
    ∷ row 21 (is_open x)
    ∷ place_rows o.settings q room))

-- ---- take; x is the record of the tag that byte 10 names

-- bytes without a completion, from what the reader says of them
abbrev pub other_answer : Result Unit Refusal → TakeAnswer
other_answer (Ok _) = Refused NotACompletion
other_answer (Err r) = Unread r

-- what does not change a record has length 0
abbrev pub kept : TakeAnswer → Outcome
kept a = record { answer = a; length = 0 }

abbrev pub piece_outcome : Origin → Option Read → Piece → ℕ → Outcome
piece_outcome o x c room = record { answer = piece_answer o x c room; length = c.length }

-- the bytes as a completion, and what the reader says of it
abbrev pub piece_at : List ℕ → Piece
piece_at bytes = piece_of (completion_packet bytes)

abbrev pub fault_in : Origin → List ℕ → Result Unit Refusal
fault_in o bytes = checked (first (completion_rows o.settings.mps (piece_at bytes).length bytes))

abbrev pub judged_outcome : Result Unit Refusal → Outcome → Outcome
judged_outcome (Ok _) d = d
judged_outcome (Err r) d = kept (Unread r)

unfoldable pub completion_outcome : Origin → Option Read → List ℕ → ℕ → Outcome
completion_outcome o x bytes room = judged_outcome (fault_in o bytes) (piece_outcome o x (piece_at bytes) room)

unfoldable pub take_outcome : Bool → Origin → Option Read → List ℕ → ℕ → Outcome
take_outcome valid o x bytes room =
    pick valid
    (pick (has_completion bytes)
    (completion_outcome o x bytes room)
    (kept (other_answer (checked (first (read_rows o.settings bytes))))))
    (kept (Refused BadSetting))

-- of a table, with the record of a tag
abbrev pub outcome_of : Table → ℕ → List ℕ → ℕ → Outcome
outcome_of t tag bytes room = take_outcome (valid_table t) t.origin (state_at t tag) bytes room

-- the store afterwards
abbrev pub piece_laid : Origin → Option Read → Piece → List ℕ → List ℕ → List ℕ
piece_laid o x c payload store = store_given (piece_answer o x c (length store)) (read_in x) payload store

abbrev pub judged_laid : Result Unit Refusal → List ℕ → List ℕ → List ℕ
judged_laid (Ok _) laid store = laid
judged_laid (Err r) laid store = store

unfoldable pub completion_laid : Origin → Option Read → List ℕ → List ℕ → List ℕ
completion_laid o x bytes store =
    judged_laid (fault_in o bytes)
    (piece_laid o x (piece_at bytes) (take (4 * (piece_at bytes).length) (drop 12 bytes)) store)
    store

unfoldable pub take_laid : Bool → Origin → Option Read → List ℕ → List ℕ → List ℕ
take_laid valid o x bytes store = pick valid (pick (has_completion bytes) (completion_laid o x bytes store) store) store

abbrev pub laid_of : Table → ℕ → List ℕ → List ℕ → List ℕ
laid_of t tag bytes store = take_laid (valid_table t) t.origin (state_at t tag) bytes store
