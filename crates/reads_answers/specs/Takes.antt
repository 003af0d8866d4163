-- Document 01, take: from "29 not Cpl or CplD" to "otherwise More", what it answers to a packet that was read, from
-- the record of its tag. A reader must believe `own_rows` (29 to 34), `outcome` and `packet_answer`; `piece_answer` is the
-- same of a packet that is known to be a completion.
use Rattle.std.specs.Prelude.{ℕ, not, ◌||◌, ◌&&◌, List, [], ◌∷◌, eqb, Option, unwrap_or, Result, Ok, Err}
use Rattle.bits.specs.Choice.{pick}
use Rattle.tlp.specs.Rows.{Row, row, first}
use Rattle.tlp.specs.Refusals.{checked}
use Rattle.tlp.specs.declared.refusal.Refusal.{Refusal}
use Rattle.tlp.specs.declared.packet.Packet.{Packet}
use Rattle.reads_rules.specs.declared.read.Read.{Read}
use Rattle.reads_rules.specs.declared.piece.Piece.{Piece}
use Rattle.reads_rules.specs.declared.origin.Origin.{Origin}
use Rattle.reads_rules.specs.Windows.{holds_window}
use Rattle.reads_rules.specs.Pieces.{is_completion, piece_of}
use Rattle.reads_rules.specs.Continuations.{legal, succeeds, status_bad, differs, reported}
use Rattle.reads_rules.specs.Validity.{owed_of}
use Rattle.reads_rules.specs.States.{is_open}
use Rattle.reads_answers.specs.declared.TakeAnswer.{TakeAnswer}
use Rattle.reads_answers.specs.declared.TakeAnswer.TheVariants.{More, Done, Failed, Poisoned, Refused}

-- what a free record holds
abbrev pub no_read : Read
no_read = record {
  request = record {
    access = record { address = 0; length = 0; first = 0; last = 0 };
    traffic_class = 0;
    attributes = 0;
    start = 0;
  };
  taken = 0;
}

-- the read that a record holds
abbrev pub read_in : Option Read → Read
read_in x = unwrap_or x no_read

-- the tag that a packet names as a completion
abbrev pub tag_of : Packet → ℕ
tag_of p = (piece_of p).header.tag

-- 30 to 34, of a completion; x is the record of its tag, room the store's length. "30 requester ID is not the
-- table's, or no such tag is open"; 33 and 34 come after Failed, so they are asked of status 000 alone
abbrev pub piece_rows : Origin → Option Read → Piece → ℕ → List Row
piece_rows o x c room =
    row 30 (not (eqb c.requester o.requester) || not (is_open x))
    ∷ row 31 (differs (read_in x) c)
    ∷ row 32 (status_bad c)
    ∷ row 33 (succeeds c && not (legal o (read_in x) c))
    ∷ row 34 (succeeds c && not (holds_window (read_in x).request room))
    ∷ []

-- the table's own numbers for a packet: "29 not Cpl or CplD", then 30 to 34
abbrev pub own_rows : Origin → Option Read → Packet → ℕ → List Row
own_rows o x p room = row 29 (not (is_completion p)) ∷ piece_rows o x (piece_of p) room

-- the answer to a completion that is not refused: "A failing status .. answers Failed with the status"; "A poisoned
-- one .. answers Poisoned"; "Done when n = L - p .. otherwise More"
unfoldable pub outcome : Read → Piece → TakeAnswer
outcome r c =
    pick (succeeds c)
    (pick c.poisoned Poisoned (pick (eqb c.length (owed_of r)) Done More))
    (Failed (reported c.header.status))

-- a refusal is answered before anything else
abbrev pub refused_or : Result Unit Refusal → TakeAnswer → TakeAnswer
refused_or (Ok _) x = x
refused_or (Err r) x = Refused r

-- the answer to a completion; x is the record of its tag
unfoldable pub piece_answer : Origin → Option Read → Piece → ℕ → TakeAnswer
piece_answer o x c room = refused_or (checked (first (piece_rows o x c room))) (outcome (read_in x) c)

-- the answer to a packet that was read
unfoldable pub packet_answer : Origin → Option Read → Packet → ℕ → TakeAnswer
packet_answer o x p room = refused_or (checked (first (own_rows o x p room))) (outcome (read_in x) (piece_of p))
