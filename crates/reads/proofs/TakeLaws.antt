-- Laws of take, in the words of the returns.
use Prim.Native.Nat.{ℕ, zero, suc, ◌+◌, ◌-◌, ◌*◌, ◌^◌, ◌≤◌}
use native.Mathlib.Omega.{arith}
use mathlib.Core.Path.{◌≡◌, refl, sym, ap, ◌∙◌}
use mathlib.Core.Bool.{Bool, true, false, not, ◌||◌, ◌&&◌, true≢false, and-eq-true_iff}
use mathlib.Core.List.{List}
use lib.Dec.{ltb, leb, eqb}
use lib.ListN.{length, take, drop}
use borrow.Author.Tests.{not-true, not-false, eqb-true, ltb-false, le-leb}
use Rattle.std.specs.Prelude.{Option, Result, Ok, Err}
use Rattle.bits.specs.Choice.{pick}
use Rattle.bits.specs.Word.{byte}
use Rattle.tlp.specs.Rows.{first}
use Rattle.tlp.specs.Refusals.{answered, checked}
use Rattle.tlp.specs.declared.refusal.Refusal.{Refusal}
use Rattle.tlp.specs.declared.refusal.Refusal.TheVariants.{BadSetting}
use Rattle.tlp.specs.Settings.{settings_listed}
use Rattle.tlp.specs.PacketTypes.{family_of, type_at, is_unlisted}
use Rattle.tlp.specs.Packets.{type_of, access_of}
use Rattle.tlp.specs.Sizes.{data_bytes}
use Rattle.tlp.specs.declared.settings.Settings.{Settings}
use Rattle.tlp.proofs.RowLaws.{first-none}
use Rattle.tlp.specs.declared.packet_type.PacketType.{PacketType}
use Rattle.tlp.specs.declared.packet_type.PacketType.TheVariants.{MRd32, MRd64, MWr32, MWr64, IORd, IOWr, CfgRd0, CfgWr0, CfgRd1, CfgWr1, Msg, MsgD, Cpl, CplD, Unlisted}
use Rattle.tlp.specs.declared.packet.Packet.{Packet}
use Rattle.tlp_read.specs.Read.{read_rows, read_packet, payload_of}
use Rattle.tlp_read.specs.Fields.{completion_at, address_at, route_at, kind_at, packet_at}
use Rattle.tlp_read.specs.Completions.{has_completion, completion_type, completion_packet, completion_rows}
use Rattle.tlp_read.proofs.CompletionLaws.{completion-rows, completion-packet}
use Rattle.reads_rules.specs.declared.read.Read.{Read}
use Rattle.reads_rules.specs.declared.piece.Piece.{Piece}
use Rattle.reads_rules.specs.declared.origin.Origin.{Origin}
use Rattle.reads_rules.specs.Pieces.{of_completions, is_completion, piece_of}
use Rattle.reads.specs.declared.table.Table.{Table}
use Rattle.reads_slots.specs.Records.{opened_with, words_with}
use Rattle.reads.specs.declared.table.Taking.{Taking}
use Rattle.reads.specs.declared.take.Outcome.{Outcome}
use Rattle.reads_answers.specs.declared.TakeAnswer.{TakeAnswer}
use Rattle.reads_answers.specs.declared.TakeAnswer.TheVariants.{More, Done, Failed, Poisoned, Unread, Refused}
use Rattle.reads.specs.Tables.{table_of, state_at, with_state, valid_table}
use Rattle.reads_answers.specs.Takes.{read_in, tag_of, packet_answer}
use Rattle.reads_answers.proofs.TakeLaws.{answer-other, answer-piece, more-le}
use Rattle.reads.specs.TakeCall.{table_given, packet_taking, packet_store, answer_taking, answer_store, take_call, take_store}
use Rattle.reads.proofs.OpenLaws.{ok-none}
use Rattle.reads.specs.Inner.Steps.{takes, record_given, other_answer, kept, piece_outcome, piece_at, fault_in, judged_outcome, completion_outcome, take_outcome, outcome_of, piece_laid, judged_laid, completion_laid, take_laid, laid_of}

-- ---- a completion

module _ (o : Origin) (x : Option Read) (bytes : List ℕ) (p : Packet) (c : Piece) (f : Result Unit Refusal) (ep : p ≡ completion_packet bytes) (ec : c ≡ piece_of p)
    (ef : f ≡ checked (first (completion_rows o.settings.mps c.length bytes))) where
  piece_is : c ≡ piece_at bytes
  piece_is = ec ∙ ap piece_of ep

  fault_is : f ≡ fault_in o bytes
  fault_is = ef ∙ ap (λ d. checked (first (completion_rows o.settings.mps d.length bytes))) piece_is

  pub completion-unread : (room : ℕ) (r : Refusal) (d : Outcome) → f ≡ Err r → d ≡ kept (Unread r) → d ≡ completion_outcome o x bytes room
  unfolding completion_outcome
  completion-unread room r d h e = rw (← fault_is, h) e

  pub completion-unlaid : (store : List ℕ) (r : Refusal) → f ≡ Err r → store ≡ completion_laid o x bytes store
  unfolding completion_laid
  completion-unlaid store r h = rw (← fault_is, h)

  module _ (u : Unit {0}) (h : f ≡ Ok u) where
    -- the slice of the payload lies within the bytes
    pub completion-fits : 12 + 4 * c.length ≤ length bytes
    completion-fits =
        let k = (first-none (completion_rows o.settings.mps c.length bytes) refl (ok-none (first (completion_rows o.settings.mps c.length bytes)) u (sym h ∙ ef))).0 in
        let m = eqb-true (length bytes) _ (not-false _ k) in
        omega (arith, m)

    pub completion-read : (room : ℕ) (d : Outcome) → d ≡ piece_outcome o x c room → d ≡ completion_outcome o x bytes room
    unfolding completion_outcome
    completion-read room d q = rw (← fault_is, h, ← piece_is) q

    pub completion-laid : (store store' : List ℕ) → store' ≡ piece_laid o x c (take ((12 + 4 * c.length) - 12) (drop 12 bytes)) store → store' ≡ completion_laid o x bytes store
    unfolding completion_laid
    completion-laid store store' q =
        let k : (12 + 4 * c.length) - 12 ≡ 4 * c.length = omega arith in
        rw (← fault_is, h, ← piece_is) (rw k at q)

pub ruleset completion-laws = (completion-unread, completion-read)

pub ruleset completion-stores = (completion-unlaid, completion-laid)

-- ---- byte 10: a completion's tag; what is no completion is answered 29, whichever record is looked at

-- a memory request is none in either form
pick-no-completion : (b : Bool) (x y : PacketType) → of_completions (family_of x) ≡ false → of_completions (family_of y) ≡ false → of_completions (family_of (pick b x y)) ≡ false
pick-no-completion true x y h k = h
pick-no-completion false x y h k = k

byte-ten : (t : PacketType) (bytes : List ℕ) → is_completion (packet_at t bytes) ≡ true → tag_of (packet_at t bytes) ≡ byte bytes 10
unfolding is_completion packet_at piece_of kind_at route_at type_of completion_at
byte-ten MRd32 bytes h = absurd (true≢false (sym h ∙ pick-no-completion (ltb (address_at 4 bytes) (2 ^ 32)) MRd32 MRd64 refl refl))
byte-ten MRd64 bytes h = absurd (true≢false (sym h ∙ pick-no-completion (ltb (address_at 8 bytes) (2 ^ 32)) MRd32 MRd64 refl refl))
byte-ten MWr32 bytes h = absurd (true≢false (sym h ∙ pick-no-completion (ltb (address_at 4 bytes) (2 ^ 32)) MWr32 MWr64 refl refl))
byte-ten MWr64 bytes h = absurd (true≢false (sym h ∙ pick-no-completion (ltb (address_at 8 bytes) (2 ^ 32)) MWr32 MWr64 refl refl))
byte-ten IORd bytes h = absurd (true≢false (sym h))
byte-ten IOWr bytes h = absurd (true≢false (sym h))
byte-ten CfgRd0 bytes h = absurd (true≢false (sym h))
byte-ten CfgWr0 bytes h = absurd (true≢false (sym h))
byte-ten CfgRd1 bytes h = absurd (true≢false (sym h))
byte-ten CfgWr1 bytes h = absurd (true≢false (sym h))
byte-ten Msg bytes h = absurd (true≢false (sym h))
byte-ten MsgD bytes h = absurd (true≢false (sym h))
byte-ten Cpl bytes h = refl
byte-ten CplD bytes h = refl
byte-ten Unlisted bytes h = refl

-- the bytes as a completion are one, with that tag and this payload
module _ (bytes : List ℕ) where
  as-completion : is_completion (completion_packet bytes) ≡ true
  unfolding is_completion completion_packet packet_at kind_at route_at type_of
  as-completion = go (eqb (byte bytes 0) 0x4A)
    where
      go : (b : Bool) → is_completion (packet_at (pick b CplD Cpl) bytes) ≡ true
      go true = refl
      go false = refl

  completion-tag : tag_of (completion_packet bytes) ≡ byte bytes 10
  unfolding completion_packet
  completion-tag = byte-ten (completion_type (byte bytes 0)) bytes as-completion

  completion-payload : payload_of (completion_packet bytes) bytes ≡ take (4 * (piece_at bytes).length) (drop 12 bytes)
  unfolding payload_of completion_packet piece_of packet_at kind_at route_at type_of access_of data_bytes
  completion-payload = go (eqb (byte bytes 0) 0x4A)
    where
      go : (b : Bool) → payload_of (packet_at (pick b CplD Cpl) bytes) bytes ≡ take (4 * (piece_of (packet_at (pick b CplD Cpl) bytes)).length) (drop 12 bytes)
      go true = refl
      go false = refl

pick-holds : (P : PacketType → Type 0) (b : Bool) (x y : PacketType) → P x → P y → P (pick b x y)
pick-holds P true x y h k = h
pick-holds P false x y h k = k

-- the types of a byte 0 that is neither CplD's nor Cpl's
other-types : (P : PacketType → Type 0) (b : ℕ) → eqb b 0x4A ≡ false → eqb b 0x0A ≡ false
    → P MRd32 → P MRd64 → P MWr32 → P MWr64 → P IORd → P IOWr → P CfgRd0 → P CfgWr0 → P CfgRd1 → P CfgWr1 → P Msg → P MsgD → P Unlisted → P (type_at b)
unfolding type_at
other-types P b h k m1 m2 m3 m4 i1 i2 c1 c2 c3 c4 g1 g2 u =
    rw (h, k)
    (pick-holds P (eqb b 0x00) MRd32 _ m1
    (pick-holds P (eqb b 0x20) MRd64 _ m2
    (pick-holds P (eqb b 0x40) MWr32 _ m3
    (pick-holds P (eqb b 0x60) MWr64 _ m4
    (pick-holds P (eqb b 0x02) IORd _ i1
    (pick-holds P (eqb b 0x42) IOWr _ i2
    (pick-holds P (eqb b 0x04) CfgRd0 _ c1
    (pick-holds P (eqb b 0x44) CfgWr0 _ c2
    (pick-holds P (eqb b 0x05) CfgRd1 _ c3
    (pick-holds P (eqb b 0x45) CfgWr1 _ c4
    (pick-holds P (leb 0x30 b && leb b 0x37) Msg _ g1
    (pick-holds P (leb 0x70 b && leb b 0x77) MsgD Unlisted g2 u))))))))))))

-- bytes without one, which reading accepts: the type is listed, and none of the two
module _ (bytes : List ℕ) where
  none-listed : eqb (byte bytes 0) 0x4A ≡ false → eqb (byte bytes 0) 0x0A ≡ false → is_unlisted (family_of (type_at (byte bytes 0))) ≡ false → is_completion (packet_at (type_at (byte bytes 0)) bytes) ≡ false
  unfolding is_completion packet_at kind_at route_at type_of
  none-listed h k =
      other-types (λ t. is_unlisted (family_of t) ≡ false → is_completion (packet_at t bytes) ≡ false) (byte bytes 0) h k
      (λ l. pick-no-completion (ltb (address_at 4 bytes) (2 ^ 32)) MRd32 MRd64 refl refl)
      (λ l. pick-no-completion (ltb (address_at 8 bytes) (2 ^ 32)) MRd32 MRd64 refl refl)
      (λ l. pick-no-completion (ltb (address_at 4 bytes) (2 ^ 32)) MWr32 MWr64 refl refl)
      (λ l. pick-no-completion (ltb (address_at 8 bytes) (2 ^ 32)) MWr32 MWr64 refl refl)
      (λ l. refl) (λ l. refl) (λ l. refl) (λ l. refl) (λ l. refl) (λ l. refl) (λ l. refl) (λ l. refl) (λ l. absurd (true≢false l))

  neither-holds : (a b : Bool) → (a || b) ≡ false → (a ≡ false) × (b ≡ false)
  neither-holds true b h = absurd (true≢false h)
  neither-holds false b h = (refl, h)

  no-completion : (settings : Settings) → has_completion bytes ≡ false → first (read_rows settings bytes) ≡ 0 → is_completion (packet_at (type_at (byte bytes 0)) bytes) ≡ false
  unfolding has_completion
  no-completion settings h e =
      let k = first-none (read_rows settings bytes) refl e in
      let l = le-leb 12 (length bytes) (ltb-false (length bytes) 12 k.1.0) in
      let m : (eqb (byte bytes 0) 0x4A || eqb (byte bytes 0) 0x0A) ≡ false = rw l at h in
      let n = neither-holds (eqb (byte bytes 0) 0x4A) (eqb (byte bytes 0) 0x0A) m in
      none-listed n.0 n.1 k.1.1.0

-- More is answered to a completion alone
more-piece : (v b : Bool) (n m : Result Unit Refusal) (r : Outcome) → (pick v (pick b (judged_outcome n r) (kept (other_answer m))) (kept (Refused BadSetting))).answer ≡ More
    → pick v (pick b (judged_outcome n r) (kept (other_answer m))) (kept (Refused BadSetting)) ≡ r
more-piece true true (Ok u) m r h = refl
more-piece true true (Err f) m r h = let z : ◌≡◌ {A = ℕ} 0 1 = cc in absurd (omega arith)
more-piece true false n (Ok u) r h = let z : ◌≡◌ {A = ℕ} 0 1 = cc in absurd (omega arith)
more-piece true false n (Err f) r h = let z : ◌≡◌ {A = ℕ} 0 1 = cc in absurd (omega arith)
more-piece false b n m r h = let z : ◌≡◌ {A = ℕ} 0 1 = cc in absurd (omega arith)

pub more-fits-in : (t : Table) (tag : ℕ) (bytes : List ℕ) (room : ℕ) (d : Outcome) (x : Option Read) → d ≡ outcome_of t tag bytes room → x ≡ state_at t tag → d.answer ≡ More
    → (read_in x).taken + d.length ≤ (read_in x).request.access.length
unfolding take_outcome completion_outcome
more-fits-in t tag bytes room d x e k h =
    let o = t.origin in
    let g = e ∙ more-piece (valid_table t) (has_completion bytes) (fault_in o bytes) (checked (first (read_rows o.settings bytes))) (piece_outcome o (state_at t tag) (piece_at bytes) room) (rw e at h) in
    let a : d.answer ≡ packet_answer o x (completion_packet bytes) room = rw (g, k) (sym (answer-piece o (state_at t tag) (completion_packet bytes) room (as-completion bytes))) in
    let l : d.length ≡ (piece_at bytes).length = rw g in
    rw l (more-le o x (completion_packet bytes) room d.answer (piece_at bytes) (read_in x) a h refl refl)

-- what is stored is what the table after the answer has
stored-given : (t : Table) (p : Packet) (a : TakeAnswer)
    → pick (takes a) (with_state t (tag_of p) (record_given a (state_at t (tag_of p)) (piece_of p).length)) t ≡ table_given a t (piece_of p)
stored-given t p More = refl
stored-given t p Done = refl
stored-given t p (Failed status) = refl
stored-given t p Poisoned = refl
stored-given t p (Unread r) = refl
stored-given t p (Refused n) = refl

-- ---- the whole call

valid-listed : (t : Table) → valid_table t ≡ true → settings_listed t.origin.settings ≡ true
unfolding valid_table
valid-listed t h = ((and-eq-true_iff (settings_listed t.origin.settings) _).0 h).0

module _ (t : Table) (bytes : List ℕ) where
  abbrev packet : Packet
  packet = packet_at (type_at (byte bytes 0)) bytes

  abbrev seen : Option Read
  seen = state_at t (byte bytes 10)

  -- the table with what is stored of an outcome
  abbrev outcome_taking : Outcome → Taking
  outcome_taking r = record { table = pick (takes r.answer) (with_state t (byte bytes 10) (record_given r.answer seen r.length)) t; answer = r.answer }

  piece-done : (room : ℕ) → outcome_taking (piece_outcome t.origin seen (piece_at bytes) room) ≡ packet_taking t (completion_packet bytes) room
  unfolding packet_taking
  piece-done room = rw (← answer-piece t.origin seen (completion_packet bytes) room (as-completion bytes), ← completion-tag bytes, stored-given t (completion_packet bytes) _)

  piece-left : (store : List ℕ) → piece_laid t.origin seen (piece_at bytes) (take (4 * (piece_at bytes).length) (drop 12 bytes)) store ≡ packet_store t (completion_packet bytes) (payload_of (completion_packet bytes) bytes) store
  unfolding packet_store
  piece-left store = rw (completion-payload bytes, ← answer-piece t.origin seen (completion_packet bytes) (length store) (as-completion bytes), ← completion-tag bytes)

  module _ (h : has_completion bytes ≡ true) (ok : settings_listed t.origin.settings ≡ true) where
    completion-done : (room : ℕ) → outcome_taking (completion_outcome t.origin seen bytes room) ≡ answer_taking t (read_packet t.origin.settings bytes) room
    unfolding completion_outcome read_packet piece_of
    completion-done room = rw (completion-rows bytes h t.origin.settings ok, completion-packet bytes h) (by (first (completion_rows t.origin.settings.mps (piece_at bytes).length bytes)))
      where
        by : (n : ℕ) → outcome_taking (judged_outcome (checked n) (piece_outcome t.origin seen (piece_at bytes) room)) ≡ answer_taking t (answered n (completion_packet bytes)) room
        by zero = piece-done room
        by (suc n) = refl

    completion-left : (store : List ℕ) → completion_laid t.origin seen bytes store ≡ answer_store t (read_packet t.origin.settings bytes) bytes store
    unfolding completion_laid read_packet piece_of
    completion-left store = rw (completion-rows bytes h t.origin.settings ok, completion-packet bytes h) (by (first (completion_rows t.origin.settings.mps (piece_at bytes).length bytes)))
      where
        by : (n : ℕ) → judged_laid (checked n) (piece_laid t.origin seen (piece_at bytes) (take (4 * (piece_at bytes).length) (drop 12 bytes)) store) store ≡ answer_store t (answered n (completion_packet bytes)) bytes store
        by zero = piece-left store
        by (suc n) = refl

  module _ (h : has_completion bytes ≡ false) where
    other-done : (room : ℕ) → outcome_taking (kept (other_answer (checked (first (read_rows t.origin.settings bytes))))) ≡ answer_taking t (read_packet t.origin.settings bytes) room
    unfolding read_packet packet_taking
    other-done room = by (first (read_rows t.origin.settings bytes)) refl
      where
        by : (n : ℕ) → first (read_rows t.origin.settings bytes) ≡ n → outcome_taking (kept (other_answer (checked n))) ≡ answer_taking t (answered n packet) room
        by zero e = rw (answer-other t.origin (state_at t (tag_of packet)) packet room (no-completion bytes t.origin.settings h e))
        by (suc n) e = refl

    other-left : (store : List ℕ) → store ≡ answer_store t (read_packet t.origin.settings bytes) bytes store
    unfolding read_packet packet_store
    other-left store = by (first (read_rows t.origin.settings bytes)) refl
      where
        by : (n : ℕ) → first (read_rows t.origin.settings bytes) ≡ n → store ≡ answer_store t (answered n packet) bytes store
        by zero e = rw (answer-other t.origin (state_at t (tag_of packet)) packet (length store) (no-completion bytes t.origin.settings h e))
        by (suc n) e = refl

  call-is : (room : ℕ) → outcome_taking (outcome_of t (byte bytes 10) bytes room) ≡ take_call t bytes room
  unfolding take_call take_outcome
  call-is room = go (valid_table t) refl (has_completion bytes) refl
    where
      go : (v : Bool) → valid_table t ≡ v → (b : Bool) → has_completion bytes ≡ b
          → outcome_taking (pick v (pick b (completion_outcome t.origin seen bytes room) (kept (other_answer (checked (first (read_rows t.origin.settings bytes)))))) (kept (Refused BadSetting)))
          ≡ pick v (answer_taking t (read_packet t.origin.settings bytes) room) (record { table = t; answer = Refused BadSetting })
      go true e true h = completion-done h (valid-listed t e) room
      go true e false h = other-done h room
      go false e b h = refl

  store_is : (store : List ℕ) → laid_of t (byte bytes 10) bytes store ≡ take_store t bytes store
  unfolding take_laid take_store
  store_is store = go (valid_table t) refl (has_completion bytes) refl
    where
      go : (v : Bool) → valid_table t ≡ v → (b : Bool) → has_completion bytes ≡ b
          → pick v (pick b (completion_laid t.origin seen bytes store) store) store ≡ pick v (answer_store t (read_packet t.origin.settings bytes) bytes store) store
      go true e true h = completion-left h (valid-listed t e) store
      go true e false h = other-left h store
      go false e b h = refl

module _ (o : Origin) (opened words bytes : List ℕ) (tag : ℕ) (e : tag ≡ byte bytes 10) where
  module _ (room : ℕ) (d : Outcome) (g : d ≡ outcome_of (table_of o opened words) tag bytes room) (r : Bool) (h : r ≡ takes d.answer) where
    outcome-is : outcome_taking (table_of o opened words) bytes d ≡ take_call (table_of o opened words) bytes room
    outcome-is = ap (outcome_taking (table_of o opened words) bytes) (rw e at g) ∙ call-is (table_of o opened words) bytes room

    -- x is the record of the tag, y what is put in its place
    pub take_done : (opened' words' : List ℕ) (x y : Option Read) → not r ≡ false → x ≡ state_at (table_of o opened words) tag → y ≡ record_given d.answer x d.length
        → opened' ≡ opened_with opened tag y → words' ≡ words_with words tag y → record { table = table_of o opened' words'; answer = d.answer } ≡ take_call (table_of o opened words) bytes room
    unfolding with_state
    take_done opened' words' x y n k q l m = same ∙ outcome-is
      where
        same : record { table = table_of o opened' words'; answer = d.answer } ≡ outcome_taking (table_of o opened words) bytes d
        same = rw (← e, ← h, not-false r n, l, m, q, k)

    pub take-kept : not r ≡ true → record { table = table_of o opened words; answer = d.answer } ≡ take_call (table_of o opened words) bytes room
    take-kept n = same ∙ outcome-is
      where
        same : record { table = table_of o opened words; answer = d.answer } ≡ outcome_taking (table_of o opened words) bytes d
        same = rw (← h, not-true r n)

  pub take_left : (store store' : List ℕ) → store' ≡ laid_of (table_of o opened words) tag bytes store → store' ≡ take_store (table_of o opened words) bytes store
  take_left store store' g = rw e at g ∙ store_is (table_of o opened words) bytes store

pub ruleset take-laws = (take_done, take-kept)
