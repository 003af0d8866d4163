-- What a take answers, and what a packet meets that is taken: answered More or Done.
use Prim.Native.Nat.{ℕ, zero, suc, ◌<◌}
use mathlib.Core.Path.{◌≡◌, refl, sym, ◌∙◌}
use mathlib.Core.Logic.{◌⊎◌, inl, inr}
use mathlib.Core.Bool.{Bool, true, false}
use mathlib.Core.List.{List}
use native.Mathlib.Omega.{arith}
use lib.Dec.{eqb}
use lib.ListN.{length}
use borrow.Author.Tests.{eqb-true}
use Rattle.tlp.specs.Refusals.{answered}
use Rattle.tlp.specs.declared.refusal.Refusal.TheVariants.{BadSetting}
use Rattle.bits.specs.Choice.{pick}
use Rattle.tlp.specs.Rows.{first}
use Rattle.tlp.specs.declared.packet.Packet.{Packet}
use Rattle.tlp_read.specs.Read.{read_rows, read_packet, payload_of, packet_in, payload_in}
use Rattle.reads_rules.specs.declared.read.Read.{Read}
use Rattle.reads_rules.specs.Windows.{holds_window}
use Rattle.reads_rules.specs.Validity.{owed_of}
use Rattle.reads_rules.specs.Pieces.{piece_of, piece_in}
use Rattle.reads_rules.specs.Continuations.{succeeds, legal}
use Rattle.reads.specs.declared.table.Table.{Table}
use Rattle.reads_answers.specs.declared.TakeAnswer.{TakeAnswer}
use Rattle.reads_answers.specs.declared.TakeAnswer.TheVariants.{More, Done, Refused}
use Rattle.reads.specs.Tables.{state_at, valid_table}
use Rattle.reads_answers.specs.Takes.{read_in, tag_of, outcome}
use Rattle.reads.specs.TakeCall.{packet_taking, packet_store, answer_taking, answer_store, table_given, store_given, take_call, take_store}
use Rattle.cuttings.specs.Lawful.{reads_as_completion}
use Rattle.reads_demands.specs.Demand2.{Continues}
use Rattle.reads_demands.proofs.Tests.{asked}
use Rattle.reads_demands.proofs.Passes.{PassesFor, passed, passed-says, outcome-of}
use Rattle.reads_demands.proofs.CleanPieces.{CleanPiece, clean-bytes, bytes-clean, legal-length}

-- ---- table and store afterwards, by the answer

table-by : (t : Table) (p : Packet) (room : ℕ) (v : Bool) (n : ℕ) (x : TakeAnswer)
    → (pick v (answer_taking t (answered n p) room) (record { table = t; answer = Refused BadSetting })).answer ≡ x
    → (pick v (answer_taking t (answered n p) room) (record { table = t; answer = Refused BadSetting })).table ≡ table_given x t (piece_of p)
unfolding packet_taking
table-by t p room true zero x e = rw (← e)
table-by t p room true (suc n) x e = rw (← e)
table-by t p room false n x e = rw (← e)

pub take-table : (t : Table) (b : List ℕ) (room : ℕ) (x : TakeAnswer) → (take_call t b room).answer ≡ x → (take_call t b room).table ≡ table_given x t (piece_in b)
unfolding take_call read_packet
take-table t b room x e = table-by t (packet_in b) room (valid_table t) (first (read_rows t.origin.settings b)) x e

store_by : (t : Table) (p : Packet) (b store : List ℕ) (v : Bool) (n : ℕ) (x : TakeAnswer)
    → (pick v (answer_taking t (answered n p) (length store)) (record { table = t; answer = Refused BadSetting })).answer ≡ x
    → pick v (answer_store t (answered n p) b store) store ≡ store_given x (read_in (state_at t (tag_of p))) (payload_of p b) store
unfolding packet_taking packet_store
store_by t p b store true zero x e = rw (← e)
store_by t p b store true (suc n) x e = rw (← e)
store_by t p b store false n x e = rw (← e)

pub take-store : (t : Table) (b store : List ℕ) (x : TakeAnswer) → (take_call t b (length store)).answer ≡ x
    → take_store t b store ≡ store_given x (read_in (state_at t (piece_in b).header.tag)) (payload_in b) store
unfolding take_call take_store read_packet
take-store t b store x e = store_by t (packet_in b) b store (valid_table t) (first (read_rows t.origin.settings b)) x e

-- ---- More or Done, exactly when the packet continues

module _ (t : Table) (b : List ℕ) (room : ℕ) where
  -- the packet continues the read that is open at its tag, in a valid table
  pub record Met : Type 0 where
    pub valid : valid_table t ≡ true
    pub read : Read
    pub continues : Continues t b room read

  met : (r : Read) → PassesFor t b room r → succeeds (piece_in b) ≡ true → (piece_in b).poisoned ≡ false → Met
  met r k ok clear =
      let c = piece_in b in
      let m = k.matches in
      let piece : CleanPiece t.origin c.header.tag r c = record {
        with_data = k.status.with_data ∙ ok;
        status = ok;
        poisoned = clear;
        modified = k.status.unmodified;
        requester = m.requester;
        matches = refl;
        traffic_class = m.traffic_class;
        attributes = m.attributes;
      } in
      record {
        valid = k.valid;
        read = r;
        continues = record {
          is_open = m.is_open;
          is_clean = bytes-clean t.origin c.header.tag r b m.reads piece;
          is_legal = asked (succeeds c) (legal t.origin r c) ok k.continues;
          holds = asked (succeeds c) (holds_window r.request room) ok k.holds;
        };
      }

  -- "Taken means answered More, the last piece of a cutting Done."
  pub meets : ((take_call t b room).answer ≡ More) ⊎ ((take_call t b room).answer ≡ Done) → Met
  meets (inl e) = let k = outcome-of t b room More refl e in met k.read k.passing k.said.0 k.said.1.0
  meets (inr e) = let k = outcome-of t b room Done refl e in met k.read k.passing k.said.0 k.said.1.0

  continues-pass : (r : Read) → valid_table t ≡ true → Continues t b room r → PassesFor t b room r
  unfolding reads_as_completion
  continues-pass r v c =
      let f = clean-bytes t.origin (piece_in b).header.tag r b c.is_clean in
      let k = f.piece in
      let ok = eqb-true (piece_in b).header.status 0b000 k.status in
      record {
        valid = v;
        matches = record {
          reads = rw (f.reads, f.completion);
          requester = k.requester;
          is_open = c.is_open;
          traffic_class = k.traffic_class;
          attributes = k.attributes;
        };
        status = record { unmodified = k.modified; no_retry = λ e. omega (arith, ok, e); with_data = k.with_data ∙ sym k.status };
        continues = rw (k.status, c.is_legal);
        holds = rw (k.status, c.holds);
      }

  pub continues : (r : Read) → valid_table t ≡ true → Continues t b room r → (take_call t b room).answer ≡ pick (eqb (piece_in b).length (owed_of r)) Done More
  unfolding outcome
  continues r v c =
      let k = (clean-bytes t.origin (piece_in b).header.tag r b c.is_clean).piece in
      passed t b room r (continues-pass r v c) ∙ rw (k.status, k.poisoned)

  -- Done when n = L - p, otherwise More
  pub done-last : (m : Met) → (take_call t b room).answer ≡ Done → (piece_in b).length ≡ owed_of m.read
  done-last m e = (passed-says t b room m.read (continues-pass m.read m.valid m.continues) Done e).1.1

  pub more_left : (m : Met) → (take_call t b room).answer ≡ More → (piece_in b).length < owed_of m.read
  more_left m e =
      let ne = (passed-says t b room m.read (continues-pass m.read m.valid m.continues) More e).1.1 in
      let l = legal-length t.origin m.read (piece_in b) m.continues.is_legal in
      omega arith
