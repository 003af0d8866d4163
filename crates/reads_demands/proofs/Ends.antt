-- Demand 3: "A take answers Done exactly when its tag is open, the tag's pieces taken since that opening and then its
-- own are a lawful cutting, and its store .. can hold the window."
use Prim.Native.Nat.{ℕ, ◌+◌, ◌-◌}
use mathlib.Core.Path.{◌≡◌, refl, sym, ap, ◌∙◌}
use mathlib.Core.Logic.{inr, ◌↔◌}
use mathlib.Core.Bool.{true, true≢false}
use mathlib.Core.List.{List, [], ◌∷◌, ◌++◌}
use native.Mathlib.Omega.{arith}
use lib.ListN.{length}
use borrow.Author.Tests.{eq-eqb, eqb-true, le-leb}
use Rattle.std.specs.Prelude.{Option, Some, None}
use Rattle.tlp.specs.Settings.{settings_listed}
use Rattle.reads_rules.specs.declared.request.ReadRequest.{ReadRequest}
use Rattle.reads_rules.specs.declared.read.Read.{Read}
use Rattle.reads_rules.specs.declared.origin.Origin.{Origin}
use Rattle.reads_rules.specs.Validity.{owed_of}
use Rattle.reads_rules.specs.Pieces.{piece_in}
use Rattle.reads_rules.specs.States.{is_open}
use Rattle.reads.specs.declared.table.Table.{Table}
use Rattle.reads_answers.specs.declared.TakeAnswer.TheVariants.{Done}
use Rattle.reads.specs.Tables.{new_table, state_at}
use Rattle.reads_answers.specs.Takes.{read_in}
use Rattle.reads.specs.TakeCall.{take_call}
use Rattle.cuttings.specs.Lawful.{taken_to, clean_packet, lawful_from}
use Rattle.reads_demands.specs.History.{Call, History, Change, keeps, opens, adds, closes, change, request_after, open_request, pieces_after, taken_pieces, doublewords}
use Rattle.reads_demands.specs.History.{records_of, answered_by, answers_after, answers_of}
use Rattle.reads_demands.specs.Demand2.{Continues}
use Rattle.reads_demands.specs.Demand3.{answered, next, run, Ends}
use Rattle.reads_demands.proofs.LawfulPieces.{LawfulPiece, next-piece}
use Rattle.reads_demands.proofs.CleanPieces.{clean-bytes, legal-length}
use Rattle.reads_demands.proofs.OneTake.{meets, continues, done-last}
use Rattle.reads_demands.proofs.Steps.{doublewords-end}
use Rattle.reads_demands.proofs.Accepted.{Fair, fair-at}
use Rattle.reads_demands.proofs.Runs.{adds-to, sound-valid}
use Rattle.reads_demands.proofs.Says.{Follows, follows-new, follows_next, follows, answered-alone}

-- ---- a cutting up to its last piece

module _ (o : Origin) (tag : ℕ) (q : ReadRequest) where
  abbrev Begun : ℕ → List (List ℕ) → Type 0
  Begun p [] = Unit {0}
  Begun p (b ∷ bs) = LawfulPiece o tag q p b × Begun (p + (piece_in b).length) bs

  begun-end : (p : ℕ) (bs : List (List ℕ)) (b : List ℕ) → Begun p bs → LawfulPiece o tag q (p + doublewords bs) b → Begun p (bs ++ (b ∷ []))
  unfolding doublewords
  begun-end p [] b k l = (let e : p + 0 ≡ p = omega arith in rw e at l, tt)
  begun-end p (x ∷ bs) b k l =
      let e : p + ((piece_in x).length + doublewords bs) ≡ p + (piece_in x).length + doublewords bs = omega arith in
      (k.0, begun-end (p + (piece_in x).length) bs b k.1 (rw e at l))

  -- "ending at L"
  begun-lawful : (p : ℕ) (bs : List (List ℕ)) → Begun p bs → p + doublewords bs ≡ q.access.length → lawful_from o tag q p bs ≡ true
  unfolding doublewords lawful_from
  begun-lawful p [] k e = eq-eqb p q.access.length (omega arith)
  begun-lawful p (b ∷ bs) k e = rw (k.0.is_clean, k.0.is_legal, k.0.most) (begun-lawful (p + (piece_in b).length) bs k.1 (omega arith))

  lawful-begun : (p : ℕ) (bs : List (List ℕ)) → lawful_from o tag q p bs ≡ true → Begun p bs × (p + doublewords bs ≡ q.access.length)
  unfolding doublewords lawful_from
  lawful-begun p [] e = (tt, omega (arith, eqb-true p q.access.length e))
  lawful-begun p (b ∷ bs) e =
      let n = next-piece o tag q p b bs e in
      let i = lawful-begun (p + (piece_in b).length) bs n.1 in
      ((n.0, i.0), omega (arith, i.1))

  begun-last : (p : ℕ) (bs : List (List ℕ)) (b : List ℕ) → Begun p (bs ++ (b ∷ [])) → LawfulPiece o tag q (p + doublewords bs) b
  unfolding doublewords
  begun-last p [] b k = let e : p + 0 ≡ p = omega arith in rw e k.0
  begun-last p (x ∷ bs) b k =
      let e : p + ((piece_in x).length + doublewords bs) ≡ p + (piece_in x).length + doublewords bs = omega arith in
      rw e (begun-last (p + (piece_in x).length) bs b k.1)

-- a packet that continues a read is a lawful piece of it; row 5 of the reader says "not over MPS"
continues-lawful : (o : Origin) (t : Table) (b : List ℕ) (room tag : ℕ) (r : Read) → t.origin ≡ o → (piece_in b).header.tag ≡ tag → Continues t b room r
    → LawfulPiece o tag r.request r.taken b
continues-lawful o t b room tag r e n c =
    let k : clean_packet o tag r b ≡ true = rw (e, n) at c.is_clean in
    record { is_clean = k; is_legal = rw e at c.is_legal; most = le-leb _ _ (clean-bytes o tag r b k).size.most }

-- ---- the pieces taken since an opening

abbrev Begins : Origin → History → Type 0
Begins o h = (tag : ℕ) (q : ReadRequest) → open_request tag h ≡ Some q → Begun o tag q 0 (taken_pieces tag h)

record-open : (h : History) (tag : ℕ) (q : ReadRequest) → open_request tag h ≡ Some q → records_of h tag ≡ Some (taken_to q (doublewords (taken_pieces tag h)))
unfolding records_of
record-open h tag q e = rw e

record-free : (h : History) (tag : ℕ) → open_request tag h ≡ None → records_of h tag ≡ None
unfolding records_of
record-free h tag e = rw e

same_read : (x : Option Read) (r r₂ : Read) → x ≡ Some r → x ≡ Some r₂ → r ≡ r₂
same_read x r r₂ e f = ap read_in (sym e ∙ f)

none-some : (q : ReadRequest) → None ≡ Some q → ⊥
none-some q e = let z : ◌≡◌ {A = ℕ} 0 1 = cc in omega arith

module _ {o : Origin} {t : Table} {h : History} (f : Follows o t h) where
  begins-change : Begins o h → (tag : ℕ) (q : ReadRequest) (c : Change) → Fair t tag c → request_after c (open_request tag h) ≡ Some q
      → Begun o tag q 0 (pieces_after c (taken_pieces tag h))
  begins-change k tag q keeps a e = k tag q e
  begins-change k tag q (opens r) a e = tt
  begins-change k tag q (adds b) a e =
      let p = doublewords (taken_pieces tag h) in
      let r : a.read ≡ taken_to q p = same_read (state_at t tag) _ _ (adds-to t tag b a) (f.records tag ∙ record-open h tag q e) in
      let m : Continues t b a.room (taken_to q p) = rw r at a.met in
      let z : 0 + p ≡ p = omega arith in
      begun-end o tag q 0 (taken_pieces tag h) b (k tag q e) (rw z (continues-lawful o t b a.room tag (taken_to q p) f.sound.origin a.named m))
  begins-change k tag q closes a e = absurd (none-some q e)

  begins-next : Begins o h → (c : Call) → Begins o (answered_by o (records_of h) c ∷ h)
  unfolding open_request taken_pieces
  begins-next k c tag q = rw (← (answered-alone f c)) (begins-change k tag q (change tag (answered t c)) (fair-at t c tag))

begins-run : (o : Origin) (t : Table) (h : History) (cs : List Call) → Follows o t h → Begins o h → Begins o (answers_after o h cs)
unfolding answers_after
begins-run o t h [] f k = k
begins-run o t h (c ∷ cs) f k = begins-run o (next t c) (answered_by o (records_of h) c ∷ h) cs (follows_next f c) (begins-next f k c)

begins : (o : Origin) → settings_listed o.settings ≡ true → (cs : List Call) → Begins o (answers_of o cs)
begins o l cs = begins-run o (new_table o) [] cs (follows-new o l) (unfold open_request in (λ tag q e. absurd (none-some q e)))

-- ---- the last piece

free-not : (r : Read) → None ≡ Some r → ⊥
free-not r e = true≢false (ap is_open (sym e))

module _ {o : Origin} {t : Table} {h : History} (f : Follows o t h) (k : Begins o h) (b store : List ℕ) where
  done-ends : (take_call t b (length store)).answer ≡ Done → Ends o h b store
  unfolding owed_of
  done-ends e = go (open_request (piece_in b).header.tag h) refl
    where
      go : (x : Option ReadRequest) → open_request (piece_in b).header.tag h ≡ x → Ends o h b store
      go None n = let m = meets t b (length store) (inr e) in absurd (free-not m.read (sym (record-free h (piece_in b).header.tag n) ∙ (sym (f.records (piece_in b).header.tag) ∙ m.continues.is_open)))
      go (Some q) n =
          let tag = (piece_in b).header.tag in
          let bs = taken_pieces tag h in
          let m = meets t b (length store) (inr e) in
          let r : m.read ≡ taken_to q (doublewords bs) = same_read (state_at t tag) _ _ m.continues.is_open (f.records tag ∙ record-open h tag q n) in
          let c : Continues t b (length store) (taken_to q (doublewords bs)) = rw r at m.continues in
          let last : (piece_in b).length ≡ owed_of (taken_to q (doublewords bs)) = rw r at (done-last t b (length store) m e) in
          let some = legal-length t.origin (taken_to q (doublewords bs)) (piece_in b) c.is_legal in
          let z : 0 + doublewords bs ≡ doublewords bs = omega arith in
          let g = begun-end o tag q 0 bs b (k tag q n) (rw z (continues-lawful o t b (length store) tag (taken_to q (doublewords bs)) f.sound.origin refl c)) in
          record {
            request = q;
            is_open = n;
            cutting = begun-lawful o tag q 0 (bs ++ (b ∷ [])) g (rw (doublewords-end bs b) (omega arith));
            holds = c.holds;
          }

  ends-done : Ends o h b store → (take_call t b (length store)).answer ≡ Done
  unfolding owed_of
  ends-done x =
      let tag = (piece_in b).header.tag in
      let q = x.request in
      let bs = taken_pieces tag h in
      let p = doublewords bs in
      let g = lawful-begun o tag q 0 (bs ++ (b ∷ [])) x.cutting in
      let z : 0 + p ≡ p = omega arith in
      let l : LawfulPiece o tag q p b = rw z at (begun-last o tag q 0 bs b g.0) in
      let c : Continues t b (length store) (taken_to q p) = record {
        is_open = f.records tag ∙ record-open h tag q x.is_open;
        is_clean = rw f.sound.origin l.is_clean;
        is_legal = rw f.sound.origin l.is_legal;
        holds = x.holds;
      } in
      let e : p + (piece_in b).length ≡ q.access.length = omega (arith, g.1, doublewords-end bs b) in
      continues t b (length store) (taken_to q p) (sound-valid f.sound) c ∙ rw (eq-eqb (piece_in b).length (q.access.length - p) (omega arith))

pub ends : (o : Origin) → settings_listed o.settings ≡ true → (before : List Call) (b store : List ℕ)
    → ((take_call (run (new_table o) before) b (length store)).answer ≡ Done) ↔ Ends o (answers_of o before) b store
ends o l before b store = let f = follows o l before in let k = begins o l before in (done-ends f k b store, ends-done f k b store)
