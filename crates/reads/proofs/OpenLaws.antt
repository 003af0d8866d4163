-- Laws of open, in the words of the returns.
use Prim.Native.Nat.{ℕ, zero, suc, ◌^◌, ◌≤◌, ◌<◌, zero-le}
use mathlib.Core.Path.{◌≡◌, refl, sym, ap, ◌∙◌}
use mathlib.Core.Bool.{Bool, true, false, not}
use mathlib.Core.List.{List, [], ◌∷◌, ◌++◌}
use native.Mathlib.Omega.{arith}
use lib.Dec.{leb, ltb}
use lib.ListN.{length}
use borrow.Author.Tests.{le-ltb, le-leb, lt-leb, leb-false}
use Rattle.std.specs.Prelude.{Option, Some, Result, Ok, Err}
use Rattle.scans.specs.Belows.{any_below}
use Rattle.tlp.specs.Rows.{Row, row, first, numbered}
use Rattle.tlp.specs.Packets.{access_of}
use Rattle.tlp.proofs.RowLaws.{some_of, none_of, first-none}
use Rattle.tlp_write.specs.Layout.{bytes_of, size_of}
use Rattle.tlp_write.specs.Write.{out_after}
use Rattle.tlp_write.specs.Inner.Lay.{lay_rows, lay_answer, lay_out}
use Rattle.tlp.specs.Refusals.{refusal, answered, checked}
use Rattle.tlp.specs.declared.refusal.Refusal.{Refusal}
use Rattle.tlp.specs.declared.refusal.Refusal.TheVariants.{BadSetting, TagOverLimit, TagOpen, WindowOverlap}
use Rattle.tlp.specs.declared.packet.Packet.{Packet}
use Rattle.reads_rules.specs.declared.read.Read.{Read}
use Rattle.reads_rules.specs.declared.request.ReadRequest.{ReadRequest}
use Rattle.reads_rules.specs.Requests.{request_rows}
use Rattle.reads_rules.specs.Windows.{place_rows}
use Rattle.reads_rules.proofs.RequestLaws.{read-type}
use Rattle.reads_rules.specs.declared.origin.Origin.{Origin}
use Rattle.reads_slots.specs.Records.{opened_with, words_with, shares_at}
use Rattle.reads_rules.specs.States.{is_open}
use Rattle.reads.specs.declared.table.Table.{Table}
use Rattle.reads.specs.Tables.{tag_limit, table_of, state_at, with_state, valid_table, shares_open}
use Rattle.reads.proofs.TableLaws.{limit-fits, shares-seen}
use Rattle.reads.specs.OpenCall.{header_packet, open_rows, open_call, out_given, open_out}
use Rattle.reads.specs.Inner.Steps.{rows_before12, rows_before24}

-- ---- rows of two lists

-- what a call that only looks answers to a number, and what it says of the number
pub ok-none : (n : ℕ) (u : Unit {0}) → Ok u ≡ checked n → n ≡ 0
ok-none zero u e = refl
ok-none (suc n) u e = let z : ◌≡◌ {A = ℕ} 0 1 = cc in absurd (omega arith)

err-some : (n : ℕ) (r : Refusal) → Err r ≡ checked n → n ≡ 0 → ⊥
err-some zero r e h = let z : ◌≡◌ {A = ℕ} 0 1 = cc in absurd (omega arith)
err-some (suc n) r e h = absurd (omega arith)

module _ (xs ys : List Row) (d : Result Unit Refusal) (e : d ≡ checked (first xs)) where
  pub earlier : (r : Refusal) → d ≡ Err r → Err r ≡ checked (first (xs ++ ys))
  earlier r h = sym h ∙ (e ∙ ap (λ (n : ℕ). checked n) (some_of xs ys (first xs) refl (err-some (first xs) r (sym h ∙ e))))

  pub later : (u : Unit {0}) (z : Result Unit Refusal) → numbered xs ≡ true → d ≡ Ok u → z ≡ checked (first ys) → z ≡ checked (first (xs ++ ys))
  later u z n h k = k ∙ ap (λ (n : ℕ). checked n) (none_of xs ys (first xs) (first ys) n refl (ok-none (first xs) u (sym h ∙ e)) refl)

-- ---- the rows before 24

module _ (valid : Bool) (o : Origin) (x : Option Read) (q : ReadRequest) (tag room : ℕ) where
  abbrev after : List Row
  after = row 20 (leb (tag_limit o.settings) tag) ∷ row 21 (is_open x) ∷ place_rows o.settings q room

  pub given-11 : not valid ≡ true → Err BadSetting ≡ checked (first (rows_before24 valid o x q tag room))
  unfolding first refusal
  given-11 h = rw h

  module _ (h : valid ≡ true) (d : Result Unit Refusal) (e : d ≡ checked (first (request_rows q))) where
    reach : (z : Result Unit Refusal) → z ≡ checked (first (request_rows q ++ after)) → z ≡ checked (first (rows_before24 valid o x q tag room))
    reach z k = k ∙ ap (λ (n : ℕ). checked n) (unfold first in rw h)

    module _ (u : Unit {0}) (k : d ≡ Ok u) (n : ℕ) (l : n ≡ tag_limit o.settings) where
      pub limit-over : n ≤ tag → Err TagOverLimit ≡ checked (first (rows_before24 valid o x q tag room))
      limit-over m = reach (Err TagOverLimit) (later (request_rows q) after d e u (Err TagOverLimit) refl k (unfold first refusal in rw (← l, le-leb n tag m)))

      module _ (m : tag < n) (b : Bool) (i : b ≡ is_open x) where
        pub tag-open : b ≡ true → Err TagOpen ≡ checked (first (rows_before24 valid o x q tag room))
        tag-open j = reach (Err TagOpen) (later (request_rows q) after d e u (Err TagOpen) refl k (unfold first refusal in rw (← l, lt-leb n tag m, ← i, j)))

        pub place-last : (z : Result Unit Refusal) → b ≡ false → z ≡ checked (first (place_rows o.settings q room)) → z ≡ checked (first (rows_before24 valid o x q tag room))
        place-last z j y = reach z (later (request_rows q) after d e u z refl k (y ∙ ap (λ (c : ℕ). checked c) (unfold first in rw (← l, lt-leb n tag m, ← i, j))))

-- ---- the header, by the writer

module _ (mps : ℕ) (p h : Packet) (w : p ≡ h) where
  pub header-answer : (a : Result ℕ Refusal) (space : ℕ) → a ≡ lay_answer mps p 0 space → a ≡ lay_answer mps h 0 space
  header-answer a space e = rw w at e

  pub header-out : (out out' : List ℕ) → out' ≡ lay_out mps p [] out → out' ≡ lay_out mps h [] out
  header-out out out' e = rw w at e

pub ruleset header-laws = (header-answer, header-out)

-- ---- the rows before 12, whole

module _ (o : Origin) (opened words : List ℕ) (q : ReadRequest) (tag room : ℕ) (v : Bool) (x : Option Read) (e : v ≡ valid_table (table_of o opened words)) (f : x ≡ state_at (table_of o opened words) tag)
    (d : Result Unit Refusal) (g : d ≡ checked (first (rows_before24 v o x q tag room))) where
  abbrev before : List Row
  before = rows_before24 (valid_table (table_of o opened words)) o (state_at (table_of o opened words) tag) q tag room

  abbrev shared : List Row
  shared = row 24 (shares_open (table_of o opened words) q) ∷ []

  before-is : d ≡ checked (first before)
  before-is = rw (e, f) at g

  pub fault-earlier : (r : Refusal) → d ≡ Err r → Err r ≡ checked (first (rows_before12 (table_of o opened words) q tag room))
  fault-earlier r h = earlier before shared d before-is r h

  module _ (u : Unit {0}) (h : d ≡ Ok u) (n : ℕ) (l : n ≡ tag_limit o.settings) (s : Bool) (k : s ≡ any_below n (shares_at q n opened words)) where
    pub fault-shared : s ≡ true → Err WindowOverlap ≡ checked (first (rows_before12 (table_of o opened words) q tag room))
    unfolding first refusal
    fault-shared m = later before shared d before-is u (Err WindowOverlap) refl h (rw (sym (shares-seen o opened words n l q s k) ∙ m))

    pub fault-clear : s ≡ false → Ok tt ≡ checked (first (rows_before12 (table_of o opened words) q tag room))
    unfolding first
    fault-clear m = later before shared d before-is u (Ok tt) refl h (rw (sym (shares-seen o opened words n l q s k) ∙ m))

pub ruleset fault-laws = (fault-earlier, fault-shared, fault-clear)

-- a tag that is not refused is below the limit, so it fits the header's field
pub tag_fits : (t : Table) (q : ReadRequest) (tag room : ℕ) (d : Result Unit Refusal) (u : Unit {0}) → d ≡ checked (first (rows_before12 t q tag room)) → d ≡ Ok u → tag < 2 ^ 8
tag_fits t q tag room d u e h =
    let none = first-none (rows_before12 t q tag room) refl (ok-none (first (rows_before12 t q tag room)) u (sym h ∙ e)) in
    let k = limit-fits t.origin.settings in
    let l = leb-false (tag_limit t.origin.settings) tag none.1.1.1.1.0 in
    omega arith

-- ---- the whole call

module _ (t : Table) (q : ReadRequest) (tag room : ℕ) (d : Result Unit Refusal) (e : d ≡ checked (first (rows_before12 t q tag room))) where
  abbrev header : Packet
  header = header_packet t.origin q tag

  refuses : (space : ℕ) (r : Refusal) → d ≡ Err r → answered (first (open_rows t q tag room space)) (size_of header) ≡ Err r
  refuses space r h = by (first (rows_before12 t q tag room)) refl
    where
      last : List Row
      last = row 12 (ltb space (size_of header)) ∷ []

      by : (n : ℕ) → first (rows_before12 t q tag room) ≡ n → answered (first (open_rows t q tag room space)) (size_of header) ≡ Err r
      by zero z = absurd (err-some (first (rows_before12 t q tag room)) r (sym h ∙ e) z)
      by (suc n) z =
          let m : suc n ≡ first (open_rows t q tag room space) = some_of (rows_before12 t q tag room) last (suc n) (sym z) (λ y. omega arith) in
          let k : Err r ≡ checked (suc n) = sym h ∙ (e ∙ ap (λ (x : ℕ). checked x) z) in
          rw (← m) (cc)

  -- a read has no data, so that 12 alone is left to the writer
  lays : (space : ℕ) (u : Unit {0}) → d ≡ Ok u → answered (first (open_rows t q tag room space)) (size_of header) ≡ lay_answer t.origin.settings.mps header 0 space
  unfolding lay_answer
  lays space u h =
      let n = ok-none (first (rows_before12 t q tag room)) u (sym h ∙ e) in
      let m : first last ≡ first (open_rows t q tag room space) = none_of (rows_before12 t q tag room) last (first (rows_before12 t q tag room)) (first last) refl refl n refl in
      rw (← m) (ap (λ (k : ℕ). answered k (size_of header)) (sym same))
    where
      last : List Row
      last = row 12 (ltb space (size_of header)) ∷ []

      same : first (lay_rows t.origin.settings.mps header 0 space) ≡ first last
      same = unfold first in rw ((read-type t.origin.requester tag q).1 (access_of header).length, le-ltb t.origin.settings.mps 0 zero-le)

module _ (o : Origin) (opened words : List ℕ) (q : ReadRequest) (tag room : ℕ) (d : Result Unit Refusal) (e : d ≡ checked (first (rows_before12 (table_of o opened words) q tag room))) where
  pub open-refused : (space : ℕ) (r : Refusal) (z : Result ℕ Refusal) → d ≡ Err r → z ≡ Err r → record { table = table_of o opened words; answer = z } ≡ open_call (table_of o opened words) q tag room space
  unfolding open_call
  open-refused space r z h k = rw (k, refuses (table_of o opened words) q tag room d e space r h)

  pub out-refused : (out : List ℕ) (r : Refusal) → d ≡ Err r → out ≡ open_out (table_of o opened words) q tag room out
  unfolding open_out open_call
  out-refused out r h = rw (refuses (table_of o opened words) q tag room d e (length out) r h)

  module _ (u : Unit {0}) (h : d ≡ Ok u) where
    module _ (space : ℕ) (a : Result ℕ Refusal) (g : a ≡ lay_answer o.settings.mps (header_packet o q tag) 0 space) where
      answer-is : answered (first (open_rows (table_of o opened words) q tag room space)) (size_of (header_packet o q tag)) ≡ a
      answer-is = lays (table_of o opened words) q tag room d e space u h ∙ sym g

      pub open-unwritten : (r : Refusal) (z : Result ℕ Refusal) → a ≡ Err r → z ≡ Err r → record { table = table_of o opened words; answer = z } ≡ open_call (table_of o opened words) q tag room space
      unfolding open_call
      open-unwritten r z k m = rw (m, answer-is, k)

      pub open-done : (size : ℕ) (opened' words' : List ℕ) → a ≡ Ok size → opened' ≡ opened_with opened tag (Some (record { request = q; taken = 0 }))
          → words' ≡ words_with words tag (Some (record { request = q; taken = 0 })) → record { table = table_of o opened' words'; answer = Ok size } ≡ open_call (table_of o opened words) q tag room space
      unfolding open_call with_state
      open-done size opened' words' k f l = rw (answer-is, k, f, l)

    pub out-written : (out out' : List ℕ) → out' ≡ lay_out o.settings.mps (header_packet o q tag) [] out → out' ≡ open_out (table_of o opened words) q tag room out
    unfolding open_out open_call lay_out
    out-written out out' g = rw (lays (table_of o opened words) q tag room d e (length out) u h) (g ∙ same (lay_answer o.settings.mps (header_packet o q tag) 0 (length out)))
      where
        same : (x : Result ℕ Refusal) → out_after x (bytes_of (header_packet o q tag) []) out ≡ out_given x (bytes_of (header_packet o q tag) []) out
        same (Ok k) = refl
        same (Err r) = refl
