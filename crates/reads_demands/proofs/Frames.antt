-- "No take changes another tag's record or a byte outside its read's window"; "a refused one changes nothing". Of every
-- table.
use Prim.Native.Nat.{ℕ, ◌+◌, ◌-◌, ◌≤◌, ◌<◌}
use mathlib.Core.Path.{◌≡◌, refl, ap, ◌∙◌}
use mathlib.Core.Logic.{◌⊎◌, inl, inr, ◌≢◌}
use mathlib.Core.List.{List, []}
use native.Mathlib.Omega.{arith}
use lib.ListN.{length, get_or}
use Rattle.std.specs.Prelude.{Some, Result, Ok, Err}
use Rattle.tlp.specs.declared.refusal.Refusal.{Refusal}
use Rattle.tlp_write.specs.Layout.{bytes_of}
use Rattle.reads_rules.specs.declared.read.Read.{Read}
use Rattle.reads_rules.specs.declared.piece.Piece.{Piece}
use Rattle.reads_rules.specs.declared.request.ReadRequest.{ReadRequest}
use Rattle.reads_rules.specs.Windows.{window_end}
use Rattle.reads_rules.specs.Validity.{owed_of}
use Rattle.reads_rules.specs.Pieces.{piece_in}
use Rattle.reads_store.specs.Stores.{part_at, stored}
use Rattle.reads_store.proofs.StoreLaws.{length-stored, stored-before, stored-after}
use Rattle.reads.specs.declared.table.Table.{Table}
use Rattle.reads_answers.specs.declared.TakeAnswer.{TakeAnswer}
use Rattle.reads_answers.specs.declared.TakeAnswer.TheVariants.{More, Done, Failed, Poisoned, Unread, Refused}
use Rattle.reads.specs.Answers.{open_number, take_number, withdraw_number}
use Rattle.reads.specs.Tables.{state_at}
use Rattle.reads_answers.specs.Takes.{read_in}
use Rattle.reads.specs.OpenCall.{header_packet, open_call, open_out, table_opened, out_given}
use Rattle.reads.specs.TakeCall.{take_call, take_store, table_given, store_given}
use Rattle.tlp_read.specs.Read.{payload_in}
use Rattle.reads.specs.OtherCalls.{withdraw_call, table_withdrawn}
use Rattle.reads_demands.specs.History.{Call, opening, taking, withdrawing, asking}
use Rattle.reads_demands.specs.Demand2.{Continues}
use Rattle.reads_demands.specs.Demand3.{Outside, TakeFrame, Unchanged, answered, event_number}
use Rattle.reads_demands.proofs.Limits.{state-with-other}
use Rattle.reads_demands.proofs.CleanPieces.{clean-bytes, legal-length, window-within}
use Rattle.reads_demands.proofs.OneTake.{Met, meets, take-table, take-store}

-- ---- another tag's record

given-other : (x : TakeAnswer) (t : Table) (c : Piece) (u : ℕ) → c.header.tag ≢ u → state_at (table_given x t c) u ≡ state_at t u
given-other More t c u ne = state-with-other t c.header.tag _ u ne
given-other Done t c u ne = state-with-other t c.header.tag _ u ne
given-other (Failed status) t c u ne = state-with-other t c.header.tag _ u ne
given-other Poisoned t c u ne = state-with-other t c.header.tag _ u ne
given-other (Unread r) t c u ne = refl
given-other (Refused n) t c u ne = refl

-- ---- the store

given-size : (x : TakeAnswer) (r : Read) (payload store : List ℕ) → length (store_given x r payload store) ≡ length store
given-size More r payload store = length-stored r.request r.taken payload store
given-size Done r payload store = length-stored r.request r.taken payload store
given-size (Failed status) r payload store = refl
given-size Poisoned r payload store = refl
given-size (Unread u) r payload store = refl
given-size (Refused n) r payload store = refl

-- a payload that lies within the window
stored-outside : (q : ReadRequest) (p : ℕ) (payload store : List ℕ) (i : ℕ) → part_at q p + length payload ≤ window_end q → window_end q ≤ length store
    → (i < q.start) ⊎ (window_end q ≤ i) → get_or (stored q p payload store) i 0 ≡ get_or store i 0
stored-outside q p payload store i h l (inl o) = stored-before q p payload store i (omega arith) (omega arith)
stored-outside q p payload store i h l (inr o) =
    let e : part_at q p + (i - part_at q p) ≡ i = omega arith in
    rw e at (stored-after q p payload store (i - part_at q p) (omega arith) (omega arith))

-- "n is 1 to L - p", so that the payload ends within the window
payload-within : (t : Table) (b : List ℕ) (room : ℕ) (r : Read) → Continues t b room r → part_at r.request r.taken + length (payload_in b) ≤ window_end r.request
unfolding owed_of
payload-within t b room r c =
    let k = clean-bytes t.origin (piece_in b).header.tag r b c.is_clean in
    let e = k.size.payload in
    let l = legal-length t.origin r (piece_in b) c.is_legal in
    omega arith

module _ (t : Table) (b store : List ℕ) where
  met-bytes : Met t b (length store) → (i : ℕ) → Outside (state_at t (piece_in b).header.tag) i
      → get_or (stored (read_in (state_at t (piece_in b).header.tag)).request (read_in (state_at t (piece_in b).header.tag)).taken (payload_in b) store) i 0 ≡ get_or store i 0
  met-bytes m i o =
      let r = m.read in
      let c = m.continues in
      let w = window-within r.request (length store) c.holds in
      rw c.is_open (stored-outside r.request r.taken (payload_in b) store i (payload-within t b (length store) r c) w.1 (rw c.is_open at o))

  given-bytes : (x : TakeAnswer) → (take_call t b (length store)).answer ≡ x → (i : ℕ) → Outside (state_at t (piece_in b).header.tag) i
      → get_or (store_given x (read_in (state_at t (piece_in b).header.tag)) (payload_in b) store) i 0 ≡ get_or store i 0
  given-bytes More e i o = met-bytes (meets t b (length store) (inl e)) i o
  given-bytes Done e i o = met-bytes (meets t b (length store) (inr e)) i o
  given-bytes (Failed status) e i o = refl
  given-bytes Poisoned e i o = refl
  given-bytes (Unread u) e i o = refl
  given-bytes (Refused n) e i o = refl

pub frame : (t : Table) (b store : List ℕ) → TakeFrame t b store
frame t b store =
    let x = (take_call t b (length store)).answer in
    record {
      others = λ u ne. rw (take-table t b (length store) x refl) (given-other x t (piece_in b) u ne);
      size = rw (take-store t b store x refl) (given-size x (read_in (state_at t (piece_in b).header.tag)) (payload_in b) store);
      bytes = λ i o. rw (take-store t b store x refl) (given-bytes t b store x refl i o);
    }

-- ---- a number changes nothing

open_kept : (x : Result ℕ Refusal) (t : Table) (q : ReadRequest) (tag : ℕ) (header out : List ℕ) → 0 < open_number x → (table_opened x t q tag ≡ t) × (out_given x header out ≡ out)
open_kept (Ok size) t q tag header out h = absurd (omega arith)
open_kept (Err n) t q tag header out h = (refl, refl)

pub open-unchanged : (t : Table) (q : ReadRequest) (tag : ℕ) (store out : List ℕ) → 0 < open_number (open_call t q tag (length store) (length out)).answer
    → ((open_call t q tag (length store) (length out)).table ≡ t) × (open_out t q tag (length store) out ≡ out)
unfolding open_call open_out
open-unchanged t q tag store out h = open_kept (open_call t q tag (length store) (length out)).answer t q tag (bytes_of (header_packet t.origin q tag) []) out h

take-kept : (x : TakeAnswer) (t : Table) (c : Piece) (r : Read) (payload store : List ℕ) → 0 < take_number x → (table_given x t c ≡ t) × (store_given x r payload store ≡ store)
take-kept More t c r payload store h = absurd (omega arith)
take-kept Done t c r payload store h = absurd (omega arith)
take-kept (Failed status) t c r payload store h = absurd (omega arith)
take-kept Poisoned t c r payload store h = absurd (omega arith)
take-kept (Unread u) t c r payload store h = (refl, refl)
take-kept (Refused n) t c r payload store h = (refl, refl)

pub take-unchanged : (t : Table) (b store : List ℕ) → 0 < take_number (take_call t b (length store)).answer
    → ((take_call t b (length store)).table ≡ t) × (take_store t b store ≡ store)
take-unchanged t b store h =
    let x = (take_call t b (length store)).answer in
    let k = take-kept x t (piece_in b) (read_in (state_at t (piece_in b).header.tag)) (payload_in b) store h in
    (take-table t b (length store) x refl ∙ k.0, take-store t b store x refl ∙ k.1)

withdraw-kept : (x : Result Unit Refusal) (t : Table) (tag : ℕ) → 0 < withdraw_number x → table_withdrawn x t tag ≡ t
withdraw-kept (Ok u) t tag h = absurd (omega arith)
withdraw-kept (Err n) t tag h = refl

pub withdraw-unchanged : (t : Table) (tag : ℕ) → 0 < withdraw_number (withdraw_call t tag).answer → (withdraw_call t tag).table ≡ t
unfolding withdraw_call
withdraw-unchanged t tag h = withdraw-kept (withdraw_call t tag).answer t tag h

pub unchanged : (t : Table) (c : Call) → 0 < event_number (answered t c) → Unchanged t c
unchanged t (opening q tag store out) h =
    let k = open-unchanged t q tag store out h in
    record { table = k.0; store = refl; out = k.1 }
unchanged t (taking b store) h =
    let k = take-unchanged t b store h in
    record { table = k.0; store = ap Some k.1; out = refl }
unchanged t (withdrawing tag) h = record { table = withdraw-unchanged t tag h; store = refl; out = refl }
unchanged t asking h = record { table = refl; store = refl; out = refl }
