-- A lawful cutting, piece by piece.
use Prim.Native.Nat.{ℕ, ◌+◌, ◌*◌}
use mathlib.Core.Path.{◌≡◌}
use mathlib.Core.Bool.{true, ◌&&◌, and-eq-true_iff}
use mathlib.Core.List.{List, ◌∷◌}
use lib.Dec.{leb}
use Rattle.reads_rules.specs.declared.request.ReadRequest.{ReadRequest}
use Rattle.reads_rules.specs.declared.origin.Origin.{Origin}
use Rattle.reads_rules.specs.Continuations.{legal}
use Rattle.reads_rules.specs.Pieces.{piece_in}
use Rattle.cuttings.specs.Lawful.{taken_to, clean_packet, lawful_from}

module _ (o : Origin) (tag : ℕ) (q : ReadRequest) where
  -- "clean pieces, each legal in turn, none over MPS"
  pub record LawfulPiece (p : ℕ) (b : List ℕ) : Type 0 where
    pub is_clean : clean_packet o tag (taken_to q p) b ≡ true
    pub is_legal : legal o (taken_to q p) (piece_in b) ≡ true
    pub most : leb (4 * (piece_in b).length) o.settings.mps ≡ true

  -- the next piece, and what comes after it
  pub next-piece : (p : ℕ) (b : List ℕ) (bs : List (List ℕ)) → lawful_from o tag q p (b ∷ bs) ≡ true → LawfulPiece p b × (lawful_from o tag q (p + (piece_in b).length) bs ≡ true)
  unfolding lawful_from
  next-piece p b bs e =
      let most = leb (4 * (piece_in b).length) o.settings.mps in
      let later = lawful_from o tag q (p + (piece_in b).length) bs in
      let c = (and-eq-true_iff (clean_packet o tag (taken_to q p) b) (legal o (taken_to q p) (piece_in b) && (most && later))).0 e in
      let l = (and-eq-true_iff (legal o (taken_to q p) (piece_in b)) (most && later)).0 c.1 in
      let m = (and-eq-true_iff most later).0 l.1 in
      (record { is_clean = c.0; is_legal = l.0; most = m.0 }, m.1)
