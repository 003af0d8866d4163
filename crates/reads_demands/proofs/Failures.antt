-- Failed and Poisoned, exactly when: the theorem `FailuresExactly`.
use Prim.Native.Nat.{ℕ}
use mathlib.Core.Path.{◌≡◌, refl, sym, subst, ◌∙◌}
use mathlib.Core.Logic.{inl, inr}
use mathlib.Core.Bool.{Bool, true, false}
use mathlib.Core.List.{List}
use native.Mathlib.Omega.{arith}
use lib.Dec.{eqb}
use lib.ListN.{length}
use borrow.Author.Tests.{eqb-true, eqb-false, eq-eqb, ne_eqb}
use Rattle.std.specs.Prelude.{None}
use Rattle.bits.specs.Choice.{pick}
use Rattle.tlp_read.specs.Read.{payload_in}
use Rattle.reads_rules.specs.declared.read.Read.{Read}
use Rattle.reads_rules.specs.Windows.{holds_window}
use Rattle.reads_rules.specs.Pieces.{piece_in}
use Rattle.reads_rules.specs.Continuations.{legal, succeeds, reported}
use Rattle.reads.specs.declared.table.Table.{Table}
use Rattle.reads_answers.specs.declared.TakeAnswer.{TakeAnswer}
use Rattle.reads_answers.specs.declared.TakeAnswer.TheVariants.{Failed, Poisoned}
use Rattle.reads_answers.specs.Takes.{read_in, outcome}
use Rattle.reads.specs.Tables.{state_at, with_state, valid_table}
use Rattle.reads.specs.TakeCall.{take_call, table_given, store_given}
use Rattle.reads_demands.specs.Failures.{Reports, Fails, Poisons, Closes, FailuresExactly}
use Rattle.reads_demands.proofs.Tests.{asked}
use Rattle.reads_demands.proofs.Limits.{state-freed}
use Rattle.reads_demands.proofs.Passes.{passed, outcome-of}
use Rattle.reads_demands.proofs.OneTake.{take-table, take-store}

-- ---- the status that is reported

reports : (n : ℕ) → Reports n (reported n)
unfolding reported
reports n = go (eqb n 0b100) refl
  where
    go : (b : Bool) → eqb n 0b100 ≡ b → Reports n (pick b 0b100 0b001)
    go true e = inl (eqb-true n 0b100 e, refl)
    go false e = inr (eqb-false n 0b100 e, refl)

reports-so : (n status : ℕ) → Reports n status → reported n ≡ status
unfolding reported
reports-so n status (inl k) = rw (eq-eqb n 0b100 k.0, k.1)
reports-so n status (inr k) = rw (ne_eqb n 0b100 k.0, k.1)

-- ---- exactly when

module _ (t : Table) (b : List ℕ) (room : ℕ) where
  fails : (status : ℕ) → (take_call t b room).answer ≡ Failed status → (r : Read) × Fails t b r status
  fails status e =
      let k = outcome-of t b room (Failed status) refl e in
      let fine = k.passing.status in (
        k.read,
        record {
          matches = k.passing.matches;
          unmodified = fine.unmodified;
          without_data = fine.with_data ∙ k.said.0;
          failing = eqb-false _ _ k.said.0;
          no_retry = fine.no_retry;
          reports = subst (Reports (piece_in b).header.status) k.said.1 (reports (piece_in b).header.status);
        },
      )

  failed : valid_table t ≡ true → (status : ℕ) (r : Read) → Fails t b r status → (take_call t b room).answer ≡ Failed status
  unfolding outcome
  failed v status r f =
      let no : succeeds (piece_in b) ≡ false = ne_eqb _ _ f.failing in
      passed t b room r
      (record {
        valid = v;
        matches = f.matches;
        status = record { unmodified = f.unmodified; no_retry = f.no_retry; with_data = f.without_data ∙ sym no };
        continues = rw no;
        holds = rw no;
      })
      ∙ rw (no, reports-so _ _ f.reports)

  poisons : (take_call t b room).answer ≡ Poisoned → (r : Read) × Poisons t b room r
  poisons e =
      let c = piece_in b in
      let k = outcome-of t b room Poisoned refl e in
      let p = k.passing in
      let ok = k.said.0 in (
        k.read,
        record {
          matches = p.matches;
          unmodified = p.status.unmodified;
          with_data = p.status.with_data ∙ ok;
          successful = eqb-true _ _ ok;
          is_legal = asked (succeeds c) (legal t.origin k.read c) ok p.continues;
          holds = asked (succeeds c) (holds_window k.read.request room) ok p.holds;
          poisoned = k.said.1;
        },
      )

  poisoned : valid_table t ≡ true → (r : Read) → Poisons t b room r → (take_call t b room).answer ≡ Poisoned
  unfolding outcome
  poisoned v r p =
      let ok : succeeds (piece_in b) ≡ true = eq-eqb _ _ p.successful in
      passed t b room r
      (record {
        valid = v;
        matches = p.matches;
        status = record { unmodified = p.unmodified; no_retry = λ e. omega (arith, p.successful, e); with_data = p.with_data ∙ sym ok };
        continues = rw (ok, p.is_legal);
        holds = rw (ok, p.holds);
      })
      ∙ rw (ok, p.poisoned)

-- ---- table and store: of an answer that frees the tag and leaves the store
closes : (t : Table) (b store : List ℕ) (x : TakeAnswer) → table_given x t (piece_in b) ≡ with_state t (piece_in b).header.tag None
    → ((r : Read) (payload : List ℕ) → store_given x r payload store ≡ store) → (take_call t b (length store)).answer ≡ x → Closes t b store
closes t b store x f s e = record {
  free = rw (take-table t b (length store) x e, f) (state-freed t (piece_in b).header.tag);
  unwritten = take-store t b store x e ∙ s (read_in (state_at t (piece_in b).header.tag)) (payload_in b);
}

pub failures-exactly : FailuresExactly
failures-exactly = record {
  failed = λ t b store status v. record {
    exactly = (fails t b (length store) status, λ k. failed t b (length store) v status k.0 k.1);
    closes = closes t b store (Failed status) refl (λ r payload. refl);
  };
  poisoned = λ t b store v. record {
    exactly = (poisons t b (length store), λ k. poisoned t b (length store) v k.0 k.1);
    closes = closes t b store Poisoned refl (λ r payload. refl);
  };
}
