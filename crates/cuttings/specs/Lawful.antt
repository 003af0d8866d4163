-- Document 01: "A lawful cutting is a row of clean pieces, each legal in turn, none over MPS, ending at L." A piece is
-- the bytes of a packet. Demand 3 cites `lawful_cutting` and `payloads_joined`: to be believed is all of this file.
use Rattle.std.specs.Prelude.{ℕ, ◌+◌, ◌*◌, Bool, ◌&&◌, List, [], ◌∷◌, ◌++◌, eqb, leb}
use Rattle.tlp.specs.Rows.{first}
use Rattle.tlp_read.specs.Read.{read_rows, packet_in, payload_in}
use Rattle.reads_rules.specs.declared.request.ReadRequest.{ReadRequest}
use Rattle.reads_rules.specs.declared.read.Read.{Read}
use Rattle.reads_rules.specs.declared.origin.Origin.{Origin}
use Rattle.reads_rules.specs.Pieces.{is_completion, piece_in}
use Rattle.reads_rules.specs.Continuations.{legal, clean}

-- a Cpl or CplD "read without a number"
unfoldable pub reads_as_completion : Origin → List ℕ → Bool
reads_as_completion o b = eqb (first (read_rows o.settings b)) 0 && is_completion (packet_in b)

-- a read with p doublewords taken
abbrev pub taken_to : ReadRequest → ℕ → Read
taken_to q p = record { request = q; taken = p }

-- `clean` says "a CplD .. status 000, EP and BCM 0, matching ID, tag, TC and Attr"
unfoldable pub clean_packet : Origin → ℕ → Read → List ℕ → Bool
clean_packet o tag r b = reads_as_completion o b && clean o tag r (piece_in b)

-- the sentence, from doubleword p on
unfoldable pub lawful_from : Origin → ℕ → ReadRequest → ℕ → List (List ℕ) → Bool
lawful_from o tag q p [] = eqb p q.access.length
lawful_from o tag q p (b ∷ bs) =
    clean_packet o tag (taken_to q p) b
    && (legal o (taken_to q p) (piece_in b)
    && (leb (4 * (piece_in b).length) o.settings.mps
    && lawful_from o tag q (p + (piece_in b).length) bs))

abbrev pub lawful_cutting : Origin → ℕ → ReadRequest → List (List ℕ) → Bool
lawful_cutting o tag q bs = lawful_from o tag q 0 bs

-- "The answer is a cutting's payloads joined"
unfoldable pub payloads_joined : List (List ℕ) → List ℕ
payloads_joined [] = []
payloads_joined (b ∷ bs) = payload_in b ++ payloads_joined bs
