-- Part of demand 3: the pieces of a lawful cutting that stand after their opening are taken, "whatever calls fall
-- between", and their bytes stand in the window.
use Prim.Native.Nat.{ℕ, ◌+◌, ◌-◌, ◌*◌, ◌≤◌, ◌<◌, zero-le}
use mathlib.Core.Path.{◌≡◌, refl, sym, ◌∙◌}
use mathlib.Core.Logic.{◌⊎◌, inl, inr, ◌≢◌}
use mathlib.Core.Bool.{Bool, true, false, true≢false}
use mathlib.Core.List.{List, [], ◌∷◌, ◌++◌, append_assoc}
use native.Mathlib.Omega.{arith}
use lib.Dec.{eqb, ltb}
use lib.ListN.{length, get_or, length-append}
use borrow.Author.Tests.{eqb-true, eqb-false, eq-eqb, ne_eqb, ltb-false, lt-ltb, le-ltb}
use Rattle.std.specs.Prelude.{Option, Some, None, Result, Ok, Err}
use Rattle.tlp.specs.Refusals.{answered as result_of}
use Rattle.tlp.specs.declared.refusal.Refusal.{Refusal}
use Rattle.bits.specs.Choice.{pick}
use Rattle.tlp.specs.Rows.{first}
use Rattle.tlp_write.specs.Layout.{size_of}
use Rattle.byte_enables.specs.Enables.{enabled}
use Rattle.reads_rules.specs.declared.request.ReadRequest.{ReadRequest}
use Rattle.reads_rules.specs.declared.read.Read.{Read}
use Rattle.reads_rules.specs.declared.origin.Origin.{Origin}
use Rattle.reads_rules.specs.Windows.{store_limit, window_end, shares_byte}
use Rattle.reads_rules.specs.Validity.{owed_of}
use Rattle.reads_rules.specs.Continuations.{legal}
use Rattle.reads_rules.specs.Pieces.{piece_in}
use Rattle.reads_store.specs.Stores.{stored}
use Rattle.reads.specs.declared.table.Table.{Table}
use Rattle.reads_answers.specs.declared.TakeAnswer.{TakeAnswer}
use Rattle.reads_answers.specs.declared.TakeAnswer.TheVariants.{More, Done, Failed, Poisoned, Unread, Refused}
use Rattle.reads.specs.Tables.{state_at}
use Rattle.reads.specs.Answers.{open_number, take_number, withdraw_number}
use Rattle.reads.specs.OpenCall.{header_packet, open_rows, open_call}
use Rattle.reads.specs.TakeCall.{take_call, take_store}
use Rattle.tlp_read.specs.Read.{payload_in}
use Rattle.reads.specs.OtherCalls.{withdraw_call}
use Rattle.cuttings.specs.Lawful.{taken_to, clean_packet, lawful_from, lawful_cutting, payloads_joined}
use Rattle.reads_demands.proofs.Numbers.{open-zero}
use Rattle.reads_demands.specs.History.{Call, opening, taking, withdrawing, asking, take_event, event_tag, event_change, change, doublewords, keeps, opens, open_change, take_change, withdraw_change}
use Rattle.reads_demands.specs.Demand2.{Continues}
use Rattle.reads_demands.specs.Demand3.{next, answered, lent, left, run, Item, other, piece, calls, pieces, Harmless, Undisturbed, SameWindow, or_last, SameStore, AllMore, Delivered, Outside}
use Rattle.reads_demands.proofs.LawfulPieces.{next-piece}
use Rattle.reads_demands.proofs.CleanPieces.{clean-bytes, legal-length, within-window}
use Rattle.reads_demands.proofs.OneTake.{continues, take-store}
use Rattle.reads_demands.proofs.Tests.{true-or-false}
use Rattle.reads_demands.proofs.Steps.{doublewords-end}
use Rattle.reads_demands.proofs.Accepted.{opened_rows, place-parts}
use Rattle.reads_demands.proofs.Runs.{Sound, sound-next, sound-valid, state-next, apart}
use Rattle.reads_demands.proofs.Frames.{frame, take-unchanged}
use Rattle.reads_demands.proofs.WindowBytes.{payloads-end, window_byte, piece_bytes}

-- ---- a lawful cutting, from its next piece on

module _ (o : Origin) (tag : ℕ) (q : ReadRequest) where
  -- where a piece is to come, the read isn't at its end
  piece-left : (p : ℕ) (b : List ℕ) (bs : List (List ℕ)) → lawful_from o tag q p (b ∷ bs) ≡ true → p < q.access.length
  unfolding owed_of
  piece-left p b bs e =
      let l = legal-length o (taken_to q p) (piece_in b) (next-piece o tag q p b bs e).0.is_legal in
      omega arith

  pieces-left : (p : ℕ) (bs : List (List ℕ)) (b : List ℕ) → lawful_from o tag q p (bs ++ (b ∷ [])) ≡ true → p < q.access.length
  pieces-left p [] b e = piece-left p b [] e
  pieces-left p (x ∷ bs) b e = piece-left p x (bs ++ (b ∷ [])) e

  last-ends : (p : ℕ) (b : List ℕ) → lawful_from o tag q p (b ∷ []) ≡ true → p + (piece_in b).length ≡ q.access.length
  unfolding lawful_from
  last-ends p b e = eqb-true _ _ (next-piece o tag q p b [] e).1

-- ---- calls that fall between: none changes the tag's record

open-keeps : (t : Table) (q : ReadRequest) (tag room space : ℕ) (r : Read) → state_at t tag ≡ Some r → open_change q (open_call t q tag room space).answer ≡ keeps
open-keeps t q tag room space r e = go (open_call t q tag room space).answer refl
  where
    go : (x : Result ℕ Refusal) → (open_call t q tag room space).answer ≡ x → open_change q x ≡ keeps
    go (Ok size) f =
        let n = opened_rows t q tag room space (rw f) in
        absurd (true≢false (rw e at n.1.1.1.1.1.0))
    go (Err n) f = refl

take-keeps : (b : List ℕ) (x : TakeAnswer) → 0 < take_number x → take_change b x ≡ keeps
take-keeps b More h = absurd (omega arith)
take-keeps b Done h = absurd (omega arith)
take-keeps b (Failed status) h = absurd (omega arith)
take-keeps b Poisoned h = absurd (omega arith)
take-keeps b (Unread r) h = refl
take-keeps b (Refused n) h = refl

withdraw-keeps : (x : Result Unit Refusal) → 0 < withdraw_number x → withdraw_change x ≡ keeps
withdraw-keeps (Ok u) h = absurd (omega arith)
withdraw-keeps (Err n) h = refl

own-keeps : (t : Table) (tag : ℕ) (r : Read) (c : Call) → state_at t tag ≡ Some r → Harmless tag (answered t c) → event_tag (answered t c) ≡ tag → event_change (answered t c) ≡ keeps
own-keeps t tag r (opening q u store out) e h f = open-keeps t q u (length store) (length out) r (rw f e)
own-keeps t tag r (taking b store) e h f = take-keeps b (take_call t b (length store)).answer (h f)
own-keeps t tag r (withdrawing u) e h f = withdraw-keeps (withdraw_call t u).answer (h f)
own-keeps t tag r asking e h f = refl

harmless-keeps : (t : Table) (tag : ℕ) (r : Read) (c : Call) → state_at t tag ≡ Some r → Harmless tag (answered t c) → change tag (answered t c) ≡ keeps
unfolding change
harmless-keeps t tag r c e h = go (eqb (event_tag (answered t c)) tag) refl
  where
    go : (b : Bool) → eqb (event_tag (answered t c)) tag ≡ b → pick b (event_change (answered t c)) keeps ≡ keeps
    go true f = own-keeps t tag r c e h (eqb-true _ _ f)
    go false f = refl

-- ---- nor a byte of its window

apart-outside : (q r : ReadRequest) (k : ℕ) → shares_byte q r ≡ false → k < 4 * q.access.length → (q.start + k < r.start) ⊎ (window_end r ≤ q.start + k)
unfolding shares_byte
apart-outside q r k e h = go (ltb q.start (window_end r)) refl
  where
    go : (b : Bool) → ltb q.start (window_end r) ≡ b → (q.start + k < r.start) ⊎ (window_end r ≤ q.start + k)
    go true f = inl (omega (arith, ltb-false r.start (window_end q) (rw f at e)))
    go false f = inr (omega (arith, ltb-false q.start (window_end r) f))

-- of another tag's window, each byte of an open tag's is outside
other-outside : {o : Origin} {t : Table} → Sound o t → (tag u : ℕ) → tag ≢ u → (r : Read) → state_at t tag ≡ Some r → (k : ℕ) → k < 4 * r.request.access.length
    → Outside (state_at t u) (r.request.start + k)
other-outside {t = t} g tag u ne r e k h = go (state_at t u) refl
  where
    go : (x : Option Read) → state_at t u ≡ x → Outside x (r.request.start + k)
    go None f = tt
    go (Some r₂) f = apart-outside r.request r₂.request k (apart g tag u ne r r₂ e f) h

module _ {o : Origin} {t : Table} (g : Sound o t) (tag : ℕ) (r : Read) (is : state_at t tag ≡ Some r) where
  take-window : (b store : List ℕ) → Harmless tag (take_event b store (take_call t b (length store)).answer) → (k : ℕ) → k < 4 * r.request.access.length
      → get_or (take_store t b store) (r.request.start + k) 0 ≡ get_or store (r.request.start + k) 0
  take-window b store h k l = go (true-or-false (eqb (piece_in b).header.tag tag))
    where
      go : (eqb (piece_in b).header.tag tag ≡ true) ⊎ (eqb (piece_in b).header.tag tag ≡ false)
          → get_or (take_store t b store) (r.request.start + k) 0 ≡ get_or store (r.request.start + k) 0
      go (inl e) = rw (take-unchanged t b store (h (eqb-true _ _ e))).1
      go (inr e) = (frame t b store).bytes _ (other-outside g tag (piece_in b).header.tag (λ f. eqb-false _ _ e (sym f)) r is k l)

  -- the store last left, after such a call
  other-store : (last : List ℕ) (c : Call) → Harmless tag (answered t c) → SameWindow r.request last (lent c)
      → SameWindow r.request last (Some (or_last last (left t c)))
  other-store last (opening q u store out) h w = w
  other-store last (taking b store) h w = ((frame t b store).size ∙ w.0, λ k l. take-window b store h k l ∙ w.1 k l)
  other-store last (withdrawing u) h w = (refl, λ k l. refl)
  other-store last asking h w = (refl, λ k l. refl)

-- ---- where the delivery stands: the pieces so far are in the store last left
record Mid (o : Origin) (q : ReadRequest) (tag : ℕ) (opened : List ℕ) (sofar : List (List ℕ)) (t : Table) (last : List ℕ) : Type 0 where
  sound : Sound o t
  is : state_at t tag ≡ Some (taken_to q (doublewords sofar))
  laid : length (payloads_joined sofar) ≡ 4 * doublewords sofar
  size : length last ≡ length opened
  window : (k : ℕ) → k < 4 * q.access.length → get_or last (q.start + k) 0 ≡ window_byte q (doublewords sofar) (payloads_joined sofar) opened k

-- as Delivered, with pieces before: all are the pieces from the opening on
record Arrives (q : ReadRequest) (tag : ℕ) (t : Table) (opened : List ℕ) (all : List (List ℕ)) (mid : List Item) (b store : List ℕ) : Type 0 where
  taken : AllMore t mid
  done : (take_call (run t (calls mid)) b (length store)).answer ≡ Done
  free : state_at (next (run t (calls mid)) (taking b store)) tag ≡ None
  bytes : (k : ℕ) → k < 4 * q.access.length
      → get_or (take_store (run t (calls mid)) b store) (q.start + k) 0 ≡ pick (enabled q.access k) (get_or (payloads_joined all) k 0) (get_or opened (q.start + k) 0)

module _ (o : Origin) (q : ReadRequest) (tag : ℕ) (opened : List ℕ) (sofar : List (List ℕ)) (t : Table) (last : List ℕ) (m : Mid o q tag opened sofar t last) where
  mid-other : (c : Call) → Harmless tag (answered t c) → SameWindow q last (lent c) → Mid o q tag opened sofar (next t c) (or_last last (left t c))
  mid-other c h w =
      let r = taken_to q (doublewords sofar) in
      let kept = other-store m.sound tag r m.is last c h w in
      record {
        sound = sound-next m.sound c;
        is = state-next m.sound c tag ∙ rw (harmless-keeps t tag r c m.is h) m.is;
        laid = m.laid;
        size = kept.0 ∙ m.size;
        window = λ k l. kept.1 k l ∙ m.window k l;
      }

  -- ---- a piece is taken
  module _ (limit : length opened ≤ store_limit) (room : window_end q ≤ length opened) (b store : List ℕ) (clean! : clean_packet o tag (taken_to q (doublewords sofar)) b ≡ true)
      (legal! : legal o (taken_to q (doublewords sofar)) (piece_in b) ≡ true) (w : SameWindow q last (Some store)) where
    own-tag : (piece_in b).header.tag ≡ tag
    own-tag = (clean-bytes o tag (taken_to q (doublewords sofar)) b clean!).piece.matches

    store-size : length store ≡ length opened
    store-size = w.0 ∙ m.size

    piece-continues : Continues t b (length store) (taken_to q (doublewords sofar))
    piece-continues = record {
      is_open = rw own-tag m.is;
      is_clean = rw (m.sound.origin, own-tag) clean!;
      is_legal = rw m.sound.origin legal!;
      holds = within-window q (length store) (omega (arith, store-size)) (omega (arith, store-size));
    }

    piece-answer : (take_call t b (length store)).answer ≡ pick (eqb (piece_in b).length (q.access.length - doublewords sofar)) Done More
    unfolding owed_of
    piece-answer = continues t b (length store) (taken_to q (doublewords sofar)) (sound-valid m.sound) piece-continues

    piece-written : (d : Bool) → (take_call t b (length store)).answer ≡ pick d Done More → take_store t b store ≡ stored q (doublewords sofar) (payload_in b) store
    piece-written true e = take-store t b store Done e ∙ rw piece-continues.is_open
    piece-written false e = take-store t b store More e ∙ rw piece-continues.is_open

    piece-change : (x : TakeAnswer) → change tag (take_event b store x) ≡ take_change b x
    unfolding change
    piece-change x = rw (eq-eqb _ _ own-tag)

    left-size : length (take_store t b store) ≡ length opened
    left-size = (frame t b store).size ∙ store-size

    left-window : (k : ℕ) → k < 4 * q.access.length
        → get_or (take_store t b store) (q.start + k) 0 ≡ window_byte q (doublewords (sofar ++ (b ∷ []))) (payloads_joined (sofar ++ (b ∷ []))) opened k
    unfolding owed_of
    left-window k h =
        let n = legal-length o (taken_to q (doublewords sofar)) (piece_in b) legal! in
        let z = (clean-bytes o tag (taken_to q (doublewords sofar)) b clean!).size.payload in
        rw (piece-written (eqb (piece_in b).length (q.access.length - doublewords sofar)) piece-answer, doublewords-end sofar b, payloads-end sofar b)
        (piece_bytes q (doublewords sofar) (piece_in b).length (payloads_joined sofar) (payload_in b) store opened m.laid z (omega arith) (omega (arith, store-size)) k h (w.1 k h ∙ m.window k h))

    laid-size : length (payloads_joined (sofar ++ (b ∷ []))) ≡ 4 * doublewords (sofar ++ (b ∷ []))
    laid-size =
        let z = (clean-bytes o tag (taken_to q (doublewords sofar)) b clean!).size.payload in
        rw (doublewords-end sofar b, payloads-end sofar b, length-append (payloads_joined sofar) (payload_in b)) (omega (arith, m.laid))

    mid-piece : doublewords sofar + (piece_in b).length < q.access.length
        → ((take_call t b (length store)).answer ≡ More) × Mid o q tag opened (sofar ++ (b ∷ [])) (next t (taking b store)) (take_store t b store)
    mid-piece l =
        let v : (take_call t b (length store)).answer ≡ More = piece-answer ∙ rw (ne_eqb (piece_in b).length (q.access.length - doublewords sofar) (λ e. omega arith)) in (
          v,
          record {
            sound = sound-next m.sound (taking b store);
            is = state-next m.sound (taking b store) tag ∙ rw (v, piece-change More, m.is, doublewords-end sofar b);
            laid = laid-size;
            size = left-size;
            window = left-window;
          },
        )

    last-piece : doublewords sofar + (piece_in b).length ≡ q.access.length → Arrives q tag t opened (sofar ++ (b ∷ [])) [] b store
    unfolding run
    last-piece e =
        let v : (take_call t b (length store)).answer ≡ Done = piece-answer ∙ rw (eq-eqb (piece_in b).length (q.access.length - doublewords sofar) (omega arith)) in
        let all : doublewords (sofar ++ (b ∷ [])) ≡ q.access.length = doublewords-end sofar b ∙ e in
        record {
          taken = tt;
          done = v;
          free = state-next m.sound (taking b store) tag ∙ rw (v, piece-change Done);
          bytes = λ k h. left-window k h ∙ rw (all, lt-ltb k (4 * q.access.length) h);
        }

-- ---- the whole stretch

deliver : (o : Origin) (q : ReadRequest) (tag : ℕ) (opened b store : List ℕ) → length opened ≤ store_limit → window_end q ≤ length opened
    → (mid : List Item) (sofar : List (List ℕ)) (t : Table) (last : List ℕ) → Mid o q tag opened sofar t last → lawful_from o tag q (doublewords sofar) (pieces mid ++ (b ∷ [])) ≡ true
    → Undisturbed tag t mid → SameStore q t last (calls mid ++ (taking b store ∷ [])) → Arrives q tag t opened (sofar ++ (pieces mid ++ (b ∷ []))) mid b store
unfolding run
deliver o q tag opened b store limit room [] sofar t last m e u w =
    let n = next-piece o tag q (doublewords sofar) b [] e in
    last-piece o q tag opened sofar t last m limit room b store n.0.is_clean n.0.is_legal w.0 (last-ends o tag q (doublewords sofar) b e)
deliver o q tag opened b store limit room (other c ∷ mid) sofar t last m e u w =
    let i = deliver o q tag opened b store limit room mid sofar (next t c) (or_last last (left t c)) (mid-other o q tag opened sofar t last m c u.0 w.0) e u.1 w.1 in
    record { taken = i.taken; done = i.done; free = i.free; bytes = i.bytes }
deliver o q tag opened b store limit room (piece x store₁ ∷ mid) sofar t last m e u w =
    let n = next-piece o tag q (doublewords sofar) x (pieces mid ++ (b ∷ [])) e in
    let l = pieces-left o tag q (doublewords sofar + (piece_in x).length) (pieces mid) b n.1 in
    let k = mid-piece o q tag opened sofar t last m limit room x store₁ n.0.is_clean n.0.is_legal w.0 l in
    let i = deliver o q tag opened b store limit room mid (sofar ++ (x ∷ [])) (next t (taking x store₁)) (take_store t x store₁) k.1 (rw (doublewords-end sofar x) n.1) u w.1 in
    record {
      taken = (k.0, i.taken);
      done = i.done;
      free = i.free;
      bytes = λ j h. rw (← (append_assoc sofar (x ∷ []) (pieces mid ++ (b ∷ [])))) (i.bytes j h);
    }

accepted-opens : (n size : ℕ) (q : ReadRequest) → n ≡ 0 → open_change q (result_of n size) ≡ opens q
accepted-opens n size q e = rw e

open-change : (t : Table) (q : ReadRequest) (tag : ℕ) (store out : List ℕ) → open_number (open_call t q tag (length store) (length out)).answer ≡ 0
    → change tag (answered t (opening q tag store out)) ≡ opens q
unfolding change open_call
open-change t q tag store out e =
    let z = open-zero t q tag (length store) (length out) e in
    rw (eq-eqb tag tag refl) (accepted-opens (first (open_rows t q tag (length store) (length out))) (size_of (header_packet t.origin q tag)) q z)

mid-opened : {o : Origin} {t : Table} → Sound o t → (q : ReadRequest) (tag : ℕ) (store out : List ℕ) → open_number (open_call t q tag (length store) (length out)).answer ≡ 0
    → Mid o q tag store [] (next t (opening q tag store out)) store
unfolding doublewords payloads_joined
mid-opened {t = t} g q tag store out e = record {
  sound = sound-next g (opening q tag store out);
  is = state-next g (opening q tag store out) tag ∙ rw (open-change t q tag store out e);
  laid = refl;
  size = refl;
  window = λ k h. rw (le-ltb k 0 zero-le);
}

pub delivery : {o : Origin} {t : Table} → Sound o t → (q : ReadRequest) (tag : ℕ) (store₀ out : List ℕ) (mid : List Item) (b store : List ℕ)
    → open_number (open_call t q tag (length store₀) (length out)).answer ≡ 0
    → lawful_cutting o tag q (pieces mid ++ (b ∷ [])) ≡ true
    → Undisturbed tag (next t (opening q tag store₀ out)) mid
    → SameStore q (next t (opening q tag store₀ out)) store₀ (calls mid ++ (taking b store ∷ []))
    → Delivered q tag (next t (opening q tag store₀ out)) store₀ mid b store
unfolding doublewords
delivery {o} {t} g q tag store₀ out mid b store e l u w =
    let n = opened_rows t q tag (length store₀) (length out) e in
    let r = place-parts q (length store₀) n.1.1.1.1.1.1.1.0 in
    let t₁ = next t (opening q tag store₀ out) in
    let i = deliver o q tag store₀ b store r.1 r.2 mid [] t₁ store₀ (mid-opened g q tag store₀ out e) l u w in
    record { taken = i.taken; done = i.done; free = i.free; bytes = i.bytes }
