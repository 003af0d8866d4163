-- Laws of what take answers.
use Prim.Native.Nat.{ℕ, zero, suc, ◌+◌, ◌-◌, ◌≤◌}
use mathlib.Core.Path.{◌≡◌, refl, sym, ◌∙◌}
use mathlib.Core.Bool.{Bool, true, false, not, ◌&&◌, and-eq-true_iff}
use native.Mathlib.Omega.{arith}
use lib.Dec.{eqb, leb}
use borrow.Author.Tests.{leb-true, not-false}
use Rattle.std.specs.Prelude.{Option}
use Rattle.bits.specs.Choice.{pick}
use Rattle.tlp.specs.Rows.{first, NoneHold}
use Rattle.tlp.specs.Refusals.{refusal, checked}
use Rattle.tlp.specs.declared.refusal.Refusal.TheVariants.{NotACompletion}
use Rattle.tlp.proofs.RowLaws.{first-none}
use Rattle.tlp.specs.declared.packet.Packet.{Packet}
use Rattle.reads_rules.specs.declared.read.Read.{Read}
use Rattle.reads_rules.specs.declared.piece.Piece.{Piece}
use Rattle.reads_rules.specs.declared.origin.Origin.{Origin}
use Rattle.reads_rules.specs.Pieces.{is_completion, piece_of}
use Rattle.reads_rules.specs.Continuations.{cut_allowed, legal, succeeds, reported}
use Rattle.reads_rules.specs.Validity.{owed_of}
use Rattle.reads_answers.specs.declared.TakeAnswer.{TakeAnswer}
use Rattle.reads_answers.specs.declared.TakeAnswer.TheVariants.{More, Done, Failed, Poisoned, Refused}
use Rattle.reads_answers.specs.Takes.{read_in, own_rows, outcome, refused_or, piece_answer, packet_answer}

-- ---- the answer to a packet

module _ (o : Origin) (x : Option Read) (p : Packet) (room : ℕ) where
  pub answer-other : is_completion p ≡ false → packet_answer o x p room ≡ Refused NotACompletion
  unfolding packet_answer first refusal
  answer-other h = rw h

  pub answer-piece : is_completion p ≡ true → packet_answer o x p room ≡ piece_answer o x (piece_of p) room
  unfolding packet_answer piece_answer first
  answer-piece h = rw h

-- ---- what More asks of the record

more-number : (n : ℕ) (a : TakeAnswer) → refused_or (checked n) a ≡ More → (n ≡ 0) × (a ≡ More)
more-number zero a e = (refl, e)
more-number (suc n) a e = let z : ◌≡◌ {A = ℕ} 0 1 = cc in absurd (omega arith)

more-success : (b c d : Bool) (n : ℕ) → pick b (pick c Poisoned (pick d Done More)) (Failed n) ≡ More → b ≡ true
more-success true c d n e = refl
more-success false c d n e = let z : ◌≡◌ {A = ℕ} 0 1 = cc in absurd (omega arith)

cut-end : (rcb l p n : ℕ) (b : Bool) → ((leb 1 n && leb n (l - p)) && b) ≡ true → p + n ≤ l
cut-end rcb l p n b e =
    let f = ((and-eq-true_iff (leb 1 n && leb n (l - p)) b).0 e).0 in
    let g = (and-eq-true_iff (leb 1 n) (leb n (l - p))).0 f in
    let h = leb-true 1 n g.0 in
    let k = leb-true n (l - p) g.1 in
    omega arith

module _ (o : Origin) (x : Option Read) (p : Packet) (room : ℕ) (a : TakeAnswer) (e : a ≡ packet_answer o x p room) (h : a ≡ More) where
  more-means : (first (own_rows o x p room) ≡ 0) × (outcome (read_in x) (piece_of p) ≡ More)
  unfolding packet_answer
  more-means = more-number (first (own_rows o x p room)) (outcome (read_in x) (piece_of p)) (sym e ∙ h)

  none-hold : NoneHold (own_rows o x p room)
  none-hold = first-none (own_rows o x p room) refl more-means.0

  success : succeeds (piece_of p) ≡ true
  unfolding outcome
  success = more-success (succeeds (piece_of p)) (piece_of p).poisoned (eqb (piece_of p).length (owed_of (read_in x))) (reported (piece_of p).header.status) more-means.1

  is_legal : legal o (read_in x) (piece_of p) ≡ true
  is_legal =
      let f : not (legal o (read_in x) (piece_of p)) ≡ false = rw success at none-hold.1.1.1.1.0 in
      not-false _ f

  pub more-fits : (read_in x).taken + (piece_of p).length ≤ (read_in x).request.access.length
  unfolding legal cut_allowed
  more-fits = cut-end o.settings.rcb (read_in x).request.access.length (read_in x).taken (piece_of p).length _ ((and-eq-true_iff _ _).0 is_legal).0

pub more-le : (o : Origin) (x : Option Read) (p : Packet) (room : ℕ) (a : TakeAnswer) (c : Piece) (r : Read) → a ≡ packet_answer o x p room → a ≡ More → c ≡ piece_of p → r ≡ read_in x
    → r.taken + c.length ≤ r.request.access.length
more-le o x p room a c r e h f k = rw (f, k) (more-fits o x p room a e h)
