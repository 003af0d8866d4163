-- A lawful cutting by its row of lengths. The theorem `ByTheRow` ties what is listed in Rows, and so P1 to P3, to the
-- sentence in Lawful. Demand 3 cites nothing of this file.
use Rattle.std.specs.Prelude.{ℕ, ◌+◌, ◌≡◌, Bool, true, ◌&&◌, List, [], ◌∷◌, eqb}
use Rattle.byte_enables.specs.declared.Access.{Access}
use Rattle.reads_rules.specs.declared.request.ReadRequest.{ReadRequest}
use Rattle.reads_rules.specs.declared.origin.Origin.{Origin}
use Rattle.reads_rules.specs.Pieces.{piece_in}
use Rattle.reads_rules.specs.Continuations.{byte_count_at, lower_address_at}
use Rattle.cuttings.specs.Rows.{lawful_row}
use Rattle.cuttings.specs.Lawful.{taken_to, clean_packet, lawful_cutting}

unfoldable pub lengths_of : List (List ℕ) → List ℕ
lengths_of [] = []
lengths_of (b ∷ bs) = (piece_in b).length ∷ lengths_of bs

-- from doubleword p on: clean pieces, and the fields that belong to each piece's place
unfoldable pub clean_from : Origin → ℕ → ReadRequest → ℕ → List (List ℕ) → Bool
clean_from o tag q p [] = true
clean_from o tag q p (b ∷ bs) = clean_packet o tag (taken_to q p) b && clean_from o tag q (p + (piece_in b).length) bs

unfoldable pub fields_from : Access → ℕ → List (List ℕ) → Bool
fields_from a p [] = true
fields_from a p (b ∷ bs) =
    eqb (piece_in b).header.byte_count (byte_count_at a p)
    && (eqb (piece_in b).header.lower_address (lower_address_at a p)
    && fields_from a (p + (piece_in b).length) bs)

unfoldable pub lawful_by_row : Origin → ℕ → ReadRequest → List (List ℕ) → Bool
lawful_by_row o tag q bs =
    clean_from o tag q 0 bs
    && (lawful_row q.access o.settings.mps o.settings.rcb (lengths_of bs)
    && fields_from q.access 0 bs)

-- the theorem
abbrev pub ByTheRow : Type 0
ByTheRow = (o : Origin) (tag : ℕ) (q : ReadRequest) (bs : List (List ℕ))
    → lawful_cutting o tag q bs ≡ lawful_by_row o tag q bs
