-- A lawful cutting is one by its row of lengths: the theorem `ByTheRow`.
use Prim.Native.Nat.{ℕ, ◌+◌, ◌*◌}
use mathlib.Core.Path.{◌≡◌, refl, sym}
use mathlib.Core.Bool.{Bool, true, false, ◌&&◌, and-false, and-true}
use mathlib.Core.List.{List, [], ◌∷◌}
use lib.Dec.{eqb, leb}
use Rattle.byte_enables.specs.declared.Access.{Access}
use Rattle.reads_rules.specs.declared.request.ReadRequest.{ReadRequest}
use Rattle.reads_rules.specs.declared.origin.Origin.{Origin}
use Rattle.reads_rules.specs.Pieces.{piece_in}
use Rattle.reads_rules.specs.Continuations.{byte_count_at, lower_address_at, cut_allowed, legal}
use Rattle.cuttings.specs.Rows.{row_from, lawful_row}
use Rattle.cuttings.specs.Lawful.{taken_to, clean_packet, lawful_from}
use Rattle.cuttings.specs.ByRow.{lengths_of, clean_from, fields_from, lawful_by_row, ByTheRow}

-- clean, cut, within MPS, byte count and lower address of the first piece; clean, row and fields of the later ones
sorted : (c k m b a cs r f : Bool)
    → (c && cs) && ((k && (m && r)) && (b && (a && f))) ≡ c && ((k && (b && a)) && (m && (cs && (r && f))))
sorted false k m b a cs r f = refl
sorted true false m b a cs r f = and-false cs
sorted true true m false a cs r f = rw (and-false (m && r)) (and-false cs)
sorted true true m true false cs r f = rw (and-false (m && r)) (and-false cs)
sorted true true false true true cs r f = and-false cs
sorted true true true true true cs r f = refl

module _ (o : Origin) (tag : ℕ) (q : ReadRequest) where
  abbrev access : Access
  access = q.access

  abbrev row_of : ℕ → List (List ℕ) → Bool
  row_of p bs = row_from access o.settings.mps o.settings.rcb p (lengths_of bs)

  by-pieces : (p : ℕ) (bs : List (List ℕ))
      → clean_from o tag q p bs && (row_of p bs && fields_from access p bs) ≡ lawful_from o tag q p bs
  unfolding clean_from row_from fields_from lengths_of lawful_from legal
  by-pieces p [] = and-true (eqb p access.length)
  by-pieces p (b ∷ bs) =
      let c = piece_in b in
      let next = p + c.length in
      rw (← (by-pieces next bs))
      (sorted (clean_packet o tag (taken_to q p) b) (cut_allowed o.settings.rcb access p c.length)
      (leb (4 * c.length) o.settings.mps) (eqb c.header.byte_count (byte_count_at access p))
      (eqb c.header.lower_address (lower_address_at access p))
      (clean_from o tag q next bs) (row_of next bs) (fields_from access next bs))

pub by-the-row : ByTheRow
unfolding lawful_by_row lawful_row
by-the-row o tag q bs = sym (by-pieces o tag q 0 bs)
