-- What 31, 32, clean, legal and room for the window say, field by field.
use Prim.Native.Nat.{ℕ, ◌≤◌}
use mathlib.Core.Path.{◌≡◌}
use mathlib.Core.Logic.{◌≢◌}
use mathlib.Core.Bool.{Bool, true, false, not, and-eq-true_iff}
use mathlib.Core.List.{List}
use lib.Dec.{eqb}
use borrow.Author.Tests.{eqb-true, eqb-false, eq-eqb, ne_eqb, leb-true, le-leb, not-true, not-false}
use Rattle.bits.specs.Choice.{pick}
use Rattle.tlp.specs.Rows.{first}
use Rattle.tlp_read.specs.Read.{read_rows, packet_in}
use Rattle.reads_rules.specs.declared.request.ReadRequest.{ReadRequest}
use Rattle.reads_rules.specs.declared.read.Read.{Read}
use Rattle.reads_rules.specs.declared.piece.Piece.{Piece}
use Rattle.reads_rules.specs.declared.origin.Origin.{Origin}
use Rattle.reads_rules.specs.Windows.{store_limit, window_end, holds_window}
use Rattle.reads_rules.specs.Validity.{owed_of}
use Rattle.reads_rules.specs.Pieces.{is_completion, piece_in}
use Rattle.reads_rules.specs.Continuations.{cut_allowed, succeeds, status_bad, differs, legal, clean}
use Rattle.cuttings.specs.Lawful.{reads_as_completion, clean_packet}
use Rattle.reads_demands.proofs.Tests.{neither}
use Rattle.reads_demands.proofs.PieceSizes.{PieceSize, piece-size}

-- ---- not refused by 31

module _ (r : Read) (c : Piece) where
  pub same-fields : differs r c ≡ false → (c.traffic_class ≡ r.request.traffic_class) × (c.attributes ≡ r.request.attributes)
  unfolding differs
  same-fields e =
      let d = neither (not (eqb c.traffic_class r.request.traffic_class)) _ e in
      (eqb-true _ _ (not-false _ d.0), eqb-true _ _ (not-false _ d.1))

  pub fields-same : c.traffic_class ≡ r.request.traffic_class → c.attributes ≡ r.request.attributes → differs r c ≡ false
  unfolding differs
  fields-same e f = rw (eq-eqb _ _ e, eq-eqb _ _ f)

-- ---- not refused by 32: data comes with status 000, and with no other
pub record FineStatus (c : Piece) : Type 0 where
  pub unmodified : c.header.byte_count_modified ≡ false
  pub no_retry : c.header.status ≢ 0b010
  pub with_data : c.with_data ≡ succeeds c

data-fits : (a b : Bool) → pick a (not b) b ≡ false → b ≡ a
data-fits true b e = not-false b e
data-fits false b e = e

fits-data : (a b : Bool) → b ≡ a → pick a (not b) b ≡ false
fits-data true b e = rw e
fits-data false b e = e

module _ (c : Piece) where
  pub status-fields : status_bad c ≡ false → FineStatus c
  unfolding status_bad
  status-fields e =
      let m = neither c.header.byte_count_modified _ e in
      let s = neither (eqb c.header.status 0b010) (pick (succeeds c) (not c.with_data) c.with_data) m.1 in
      record { unmodified = m.0; no_retry = eqb-false _ _ s.0; with_data = data-fits (succeeds c) c.with_data s.1 }

  pub fields-status : FineStatus c → status_bad c ≡ false
  unfolding status_bad
  fields-status k = rw (k.unmodified, ne_eqb _ _ k.no_retry) (fits-data (succeeds c) c.with_data k.with_data)

-- ---- clean

pub record CleanPiece (o : Origin) (tag : ℕ) (r : Read) (c : Piece) : Type 0 where
  pub with_data : c.with_data ≡ true
  pub status : succeeds c ≡ true
  pub poisoned : c.poisoned ≡ false
  pub modified : c.header.byte_count_modified ≡ false
  pub requester : c.requester ≡ o.requester
  pub matches : c.header.tag ≡ tag
  pub traffic_class : c.traffic_class ≡ r.request.traffic_class
  pub attributes : c.attributes ≡ r.request.attributes

module _ (o : Origin) (tag : ℕ) (r : Read) (c : Piece) where
  pub clean-fields : clean o tag r c ≡ true → CleanPiece o tag r c
  unfolding clean
  clean-fields e =
      let e1 = (and-eq-true_iff _ _).0 e in
      let e2 = (and-eq-true_iff _ _).0 e1.1 in
      let e3 = (and-eq-true_iff _ _).0 e2.1 in
      let e4 = (and-eq-true_iff _ _).0 e3.1 in
      let e5 = (and-eq-true_iff _ _).0 e4.1 in
      let e6 = (and-eq-true_iff _ _).0 e5.1 in
      let same = same-fields r c (not-true _ e6.1) in
      record {
        with_data = e1.0;
        status = e2.0;
        poisoned = not-true _ e3.0;
        modified = not-true _ e4.0;
        requester = eqb-true _ _ e5.0;
        matches = eqb-true _ _ e6.0;
        traffic_class = same.0;
        attributes = same.1;
      }

  pub fields-clean : CleanPiece o tag r c → clean o tag r c ≡ true
  unfolding clean differs
  fields-clean k =
      rw (k.with_data, k.status, k.poisoned, k.modified, eq-eqb _ _ k.requester, eq-eqb _ _ k.matches, eq-eqb _ _ k.traffic_class, eq-eqb _ _ k.attributes)

-- the bytes of a clean piece
pub record CleanBytes (o : Origin) (tag : ℕ) (r : Read) (b : List ℕ) : Type 0 where
  pub reads : first (read_rows o.settings b) ≡ 0
  pub completion : is_completion (packet_in b) ≡ true
  pub piece : CleanPiece o tag r (piece_in b)
  pub size : PieceSize o.settings b

module _ (o : Origin) (tag : ℕ) (r : Read) (b : List ℕ) where
  pub clean-bytes : clean_packet o tag r b ≡ true → CleanBytes o tag r b
  unfolding clean_packet reads_as_completion
  clean-bytes e =
      let a = (and-eq-true_iff _ _).0 e in
      let z = (and-eq-true_iff _ _).0 a.0 in
      let k = clean-fields o tag r (piece_in b) a.1 in
      let n = eqb-true _ _ z.0 in
      record { reads = n; completion = z.1; piece = k; size = piece-size o.settings b n z.1 k.with_data }

  pub bytes-clean : reads_as_completion o b ≡ true → CleanPiece o tag r (piece_in b) → clean_packet o tag r b ≡ true
  unfolding clean_packet
  bytes-clean n k = rw (n, fields-clean o tag r (piece_in b) k)

-- ---- legal and room for the window

-- "n is 1 to L - p"
pub legal-length : (o : Origin) (r : Read) (c : Piece) → legal o r c ≡ true → (1 ≤ c.length) × (c.length ≤ owed_of r)
unfolding legal cut_allowed owed_of
legal-length o r c e =
    let n = (and-eq-true_iff _ _).0 ((and-eq-true_iff _ _).0 ((and-eq-true_iff _ _).0 e).0).0 in
    (leb-true _ _ n.0, leb-true _ _ n.1)

pub window-within : (q : ReadRequest) (room : ℕ) → holds_window q room ≡ true → (room ≤ store_limit) × (window_end q ≤ room)
unfolding holds_window
window-within q room e =
    let h = (and-eq-true_iff _ _).0 e in
    (leb-true _ _ h.0, leb-true _ _ h.1)

pub within-window : (q : ReadRequest) (room : ℕ) → room ≤ store_limit → window_end q ≤ room → holds_window q room ≡ true
unfolding holds_window
within-window q room l h = rw (le-leb room store_limit l, le-leb (window_end q) room h)
