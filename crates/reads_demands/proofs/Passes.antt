-- A take that answers no number: its packet passes take's list, and is answered by its status, EP and length. What each
-- such answer says of them is `OutcomeSays`.
use Prim.Native.Nat.{ℕ, zero, suc}
use mathlib.Core.Path.{◌≡◌, refl, sym, ap, subst, ◌∙◌}
use mathlib.Core.Logic.{◌≢◌}
use mathlib.Core.Bool.{Bool, true, false, not, ◌&&◌, and-eq-true_iff, false≢true}
use mathlib.Core.List.{List, ◌∷◌, ◌++◌}
use native.Mathlib.Omega.{arith}
use lib.Dec.{eqb}
use borrow.Author.Tests.{eqb-true, eqb-false, eq-eqb, not-false}
use Rattle.std.specs.Prelude.{Option, Some, None}
use Rattle.tlp.specs.Refusals.{refusal, answered, checked, number_in}
use Rattle.tlp.proofs.RefusalLaws.{number-answered}
use Rattle.tlp.specs.declared.settings.Settings.{Settings}
use Rattle.tlp.specs.declared.refusal.Refusal.TheVariants.{BadSetting}
use Rattle.bits.specs.Choice.{pick}
use Rattle.tlp.specs.Rows.{row, first, NoneHold}
use Rattle.tlp.proofs.RowLaws.{some_of, none_of, first-none, none_first, none-split}
use Rattle.tlp.specs.declared.packet.Packet.{Packet}
use Rattle.tlp_read.specs.Read.{read_rows, read_packet, packet_in}
use Rattle.reads_rules.specs.declared.read.Read.{Read}
use Rattle.reads_rules.specs.declared.piece.Piece.{Piece}
use Rattle.reads_rules.specs.Windows.{holds_window}
use Rattle.reads_rules.specs.Validity.{owed_of}
use Rattle.reads_rules.specs.Pieces.{is_completion, piece_of, piece_in}
use Rattle.reads_rules.specs.Continuations.{succeeds, legal, reported}
use Rattle.reads_rules.specs.States.{is_open}
use Rattle.reads.specs.declared.table.Table.{Table}
use Rattle.reads_answers.specs.declared.TakeAnswer.{TakeAnswer}
use Rattle.reads_answers.specs.declared.TakeAnswer.TheVariants.{More, Done, Failed, Poisoned, Unread, Refused}
use Rattle.reads_answers.specs.Takes.{read_in, tag_of, own_rows, outcome, refused_or, packet_answer}
use Rattle.reads.specs.Tables.{state_at, valid_table}
use Rattle.reads.specs.Answers.{take_number}
use Rattle.reads.specs.TakeCall.{packet_taking, answer_taking, take_call}
use Rattle.cuttings.specs.Lawful.{reads_as_completion}
use Rattle.reads_demands.specs.Demand1.{take_rows}
use Rattle.reads_demands.specs.Failures.{Matches}
use Rattle.reads_demands.proofs.Tests.{neither}
use Rattle.reads_demands.proofs.CleanPieces.{same-fields, fields-same, FineStatus, status-fields, fields-status}

-- ---- the answer to a packet that passes

-- what an answer says of status, EP and n
abbrev pub OutcomeSays : Read → Piece → TakeAnswer → Type 0
OutcomeSays r c More = (succeeds c ≡ true) × ((c.poisoned ≡ false) × (c.length ≢ owed_of r))
OutcomeSays r c Done = (succeeds c ≡ true) × ((c.poisoned ≡ false) × (c.length ≡ owed_of r))
OutcomeSays r c (Failed status) = (succeeds c ≡ false) × (reported c.header.status ≡ status)
OutcomeSays r c Poisoned = (succeeds c ≡ true) × (c.poisoned ≡ true)
OutcomeSays r c (Unread x) = ⊥
OutcomeSays r c (Refused n) = ⊥

-- so says an outcome, and it is no number
outcome-says : (r : Read) (c : Piece) → (take_number (outcome r c) ≡ 0) × OutcomeSays r c (outcome r c)
unfolding outcome
outcome-says r c = go (succeeds c) c.poisoned (eqb c.length (owed_of r)) refl refl refl
  where
    go : (a b d : Bool) → succeeds c ≡ a → c.poisoned ≡ b → eqb c.length (owed_of r) ≡ d
        → (take_number (pick a (pick b Poisoned (pick d Done More)) (Failed (reported c.header.status))) ≡ 0)
        × OutcomeSays r c (pick a (pick b Poisoned (pick d Done More)) (Failed (reported c.header.status)))
    go true true d e f g = (refl, (e, f))
    go true false true e f g = (refl, (e, (f, eqb-true _ _ g)))
    go true false false e f g = (refl, (e, (f, eqb-false _ _ g)))
    go false b d e f g = (refl, (e, refl))

-- ---- the number: 11, the reader's, then the table's own

number-or : (n : ℕ) (x : TakeAnswer) → take_number x ≡ 0 → number_in (checked n) ≡ n → take_number (refused_or (checked n) x) ≡ n
number-or zero x e h = e
number-or (suc n) x e h = h

packet-number : (t : Table) (p : Packet) (room : ℕ) → take_number (packet_answer t.origin (state_at t (tag_of p)) p room) ≡ first (own_rows t.origin (state_at t (tag_of p)) p room)
unfolding packet_answer refusal
packet-number t p room =
    let x = state_at t (tag_of p) in
    number-or (first (own_rows t.origin x p room)) (outcome (read_in x) (piece_of p)) (outcome-says (read_in x) (piece_of p)).0 (number-answered tt (own_rows t.origin x p room) refl)

-- the reader's number
read-listed : (settings : Settings) (b : List ℕ) (n : ℕ) → n ≡ first (read_rows settings b) → number_in (checked n) ≡ n
unfolding refusal
read-listed settings b n e =
    let k : number_in (checked (first (read_rows settings b))) ≡ first (read_rows settings b) = number-answered tt (read_rows settings b) refl in
    rw (← e) at k

open-read : (x : Option Read) → is_open x ≡ true → x ≡ Some (read_in x)
open-read None e = absurd (false≢true e)
open-read (Some r) e = refl

module _ (t : Table) (b : List ℕ) (room : ℕ) where
  read_number_lem : (n : ℕ) → n ≡ first (read_rows t.origin.settings b) → take_number (answer_taking t (answered n (packet_in b)) room).answer
      ≡ first (read_rows t.origin.settings b ++ own_rows t.origin (state_at t (tag_of (packet_in b))) (packet_in b) room)
  unfolding packet_taking
  read_number_lem zero e = none_of (read_rows t.origin.settings b) _ 0 _ refl e refl (packet-number t (packet_in b) room)
  read_number_lem (suc n) e = read-listed t.origin.settings b (suc n) e ∙ some_of (read_rows t.origin.settings b) _ (suc n) e (λ z. omega arith)

  valid-number : (v : Bool) (n : ℕ) → n ≡ first (read_rows t.origin.settings b)
      → take_number (pick v (answer_taking t (answered n (packet_in b)) room) (record { table = t; answer = Refused BadSetting })).answer
      ≡ first (row 11 (not v) ∷ (read_rows t.origin.settings b ++ own_rows t.origin (state_at t (tag_of (packet_in b))) (packet_in b) room))
  unfolding first
  valid-number true n e = read_number_lem n e
  valid-number false n e = refl

  pub take-number : take_number (take_call t b room).answer ≡ first (take_rows t b room)
  unfolding take_call read_packet
  take-number = valid-number (valid_table t) (first (read_rows t.origin.settings b)) refl

  -- ---- no number, exactly when the packet passes

  -- the packet passes for a completion of the read r; 33 and 34 are asked of status 000 alone
  pub record PassesFor (r : Read) : Type 0 where
    pub valid : valid_table t ≡ true
    pub matches : Matches t b r
    pub status : FineStatus (piece_in b)
    pub continues : succeeds (piece_in b) && not (legal t.origin r (piece_in b)) ≡ false
    pub holds : succeeds (piece_in b) && not (holds_window r.request room) ≡ false

  pub passes : take_number (take_call t b room).answer ≡ 0 → (r : Read) × PassesFor r
  unfolding reads_as_completion
  passes e =
      let x = state_at t (piece_in b).header.tag in
      let (r11, none) = first-none (take_rows t b room) refl (sym take-number ∙ e) in
      let (reading, (r29, (r30, (r31, (r32, (r33, (r34, _))))))) = none-split (read_rows t.origin.settings b) (own_rows t.origin x (packet_in b) room) none in
      let p = neither (not (eqb (piece_in b).requester t.origin.requester)) (not (is_open x)) r30 in
      let same = same-fields (read_in x) (piece_in b) r31 in (
        read_in x,
        record {
          valid = not-false _ r11;
          matches = record {
            reads = rw (none_first (read_rows t.origin.settings b) reading, not-false (is_completion (packet_in b)) r29);
            requester = eqb-true _ _ (not-false _ p.0);
            is_open = open-read x (not-false _ p.1);
            traffic_class = same.0;
            attributes = same.1;
          };
          status = status-fields (piece_in b) r32;
          continues = r33;
          holds = r34;
        },
      )

  pub passed : (r : Read) → PassesFor r → (take_call t b room).answer ≡ outcome r (piece_in b)
  unfolding take_call read_packet packet_taking packet_answer reads_as_completion
  passed r k =
      let m = k.matches in
      let same = fields-same r (piece_in b) m.traffic_class m.attributes in
      let z = (and-eq-true_iff (eqb (first (read_rows t.origin.settings b)) 0) (is_completion (packet_in b))).0 m.reads in
      let n : NoneHold (own_rows t.origin (Some r) (packet_in b) room) = (rw z.1, (rw (eq-eqb (piece_in b).requester t.origin.requester m.requester), (same, (fields-status (piece_in b) k.status, (k.continues, (k.holds, tt)))))) in
      rw (k.valid, eqb-true (first (read_rows t.origin.settings b)) 0 z.0, m.is_open, none_first (own_rows t.origin (Some r) (packet_in b) room) n)

  -- ---- what its answer says

  pub passed-says : (r : Read) → PassesFor r → (x : TakeAnswer) → (take_call t b room).answer ≡ x → OutcomeSays r (piece_in b) x
  passed-says r k x e = subst (OutcomeSays r (piece_in b)) (sym (passed r k) ∙ e) (outcome-says r (piece_in b)).1

  pub record Outcome (x : TakeAnswer) : Type 0 where
    pub read : Read
    pub passing : PassesFor read
    pub said : OutcomeSays read (piece_in b) x

  pub outcome-of : (x : TakeAnswer) → take_number x ≡ 0 → (take_call t b room).answer ≡ x → Outcome x
  outcome-of x z e =
      let (r, k) = passes (ap take_number e ∙ z) in
      record { read = r; passing = k; said = passed-says r k x e }
