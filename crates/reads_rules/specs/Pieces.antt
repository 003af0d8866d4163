-- Document 01, take: "not Cpl or CplD", and the fields that its rules ask of a completion. A reader must believe
-- `is_completion` (29), `piece_of` and `piece_in`.
use Rattle.std.specs.Prelude.{ℕ, Bool, true, false, List}
use Rattle.tlp.specs.PacketTypes.{has_data, family_of}
use Rattle.tlp.specs.Packets.{type_of, access_of, id_of}
use Rattle.tlp.specs.declared.packet.CompletionHeader.{CompletionHeader}
use Rattle.tlp.specs.declared.packet.Kind.{Kind}
use Rattle.tlp.specs.declared.packet.Kind.TheVariants.{MemoryRead, MemoryWrite, IoRead, IoWrite, ConfigRead0}
use Rattle.tlp.specs.declared.packet.Kind.TheVariants.{ConfigWrite0, ConfigRead1, ConfigWrite1, Message, MessageData}
use Rattle.tlp.specs.declared.packet.Kind.TheVariants.{Completion, CompletionData}
use Rattle.tlp.specs.declared.packet.Packet.{Packet}
use Rattle.tlp.specs.declared.packet_type.Family.{Family}
use Rattle.tlp.specs.declared.packet_type.Family.TheVariants.{Memory, Io, Config, Message as OfMessages}
use Rattle.tlp.specs.declared.packet_type.Family.TheVariants.{Completion as OfCompletions, Unlisted}
use Rattle.tlp_read.specs.Read.{packet_in}
use Rattle.reads_rules.specs.declared.piece.Piece.{Piece}

abbrev pub of_completions : Family → Bool
of_completions Memory = false
of_completions Io = false
of_completions Config = false
of_completions OfMessages = false
of_completions OfCompletions = true
of_completions Unlisted = false

-- "Cpl or CplD"
unfoldable pub is_completion : Packet → Bool
is_completion p = of_completions (family_of (type_of p))

-- the fields that only completions have; zeros for another kind, which is refused (29) before they are looked at
abbrev pub no_header : CompletionHeader
no_header = record {
  completer = 0;
  status = 0;
  byte_count_modified = false;
  byte_count = 0;
  tag = 0;
  lower_address = 0;
}

abbrev pub header_in : Kind → CompletionHeader
header_in (MemoryRead q) = no_header
header_in (MemoryWrite q) = no_header
header_in (IoRead q) = no_header
header_in (IoWrite q) = no_header
header_in (ConfigRead0 q) = no_header
header_in (ConfigWrite0 q) = no_header
header_in (ConfigRead1 q) = no_header
header_in (ConfigWrite1 q) = no_header
header_in (Message m) = no_header
header_in (MessageData m n) = no_header
header_in (Completion c) = c
header_in (CompletionData c n) = c

-- the packet as a completion: CplD has data, Cpl has none and no length
unfoldable pub piece_of : Packet → Piece
piece_of p = record {
  requester = id_of p.route;
  traffic_class = p.traffic_class;
  attributes = p.attributes;
  poisoned = p.poisoned;
  with_data = has_data (type_of p);
  length = (access_of p).length;
  header = header_in p.kind;
}

-- the packet that stands in bytes, as a completion
abbrev pub piece_in : List ℕ → Piece
piece_in bytes = piece_of (packet_in bytes)
