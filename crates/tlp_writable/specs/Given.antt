-- Document 01: what a packet that is to be written must not hold, the writer's first place for 6. All to be believed.
use Rattle.std.specs.Prelude.{ℕ, ◌%◌, ◌^◌, Bool, true, false, ◌||◌, ◌&&◌, not, List, [], ◌∷◌, eqb, leb}
use Rattle.bits.specs.Field.{field}
use Rattle.tlp.specs.Rows.{Row, row}
use Rattle.tlp.specs.PacketTypes.{family_of, is_io_or_config}
use Rattle.tlp.specs.Packets.{type_of}
use Rattle.tlp.specs.declared.packet.Route.{Route}
use Rattle.tlp.specs.declared.packet.Route.TheVariants.{Address, Id, Implicit}
use Rattle.tlp.specs.declared.packet.Request.{Request}
use Rattle.tlp.specs.declared.packet.ConfigRequest.{ConfigRequest}
use Rattle.tlp.specs.declared.packet.MessageRequest.{MessageRequest}
use Rattle.tlp.specs.declared.packet.CompletionHeader.{CompletionHeader}
use Rattle.tlp.specs.declared.packet.Kind.{Kind}
use Rattle.tlp.specs.declared.packet.Kind.TheVariants.{MemoryRead, MemoryWrite, IoRead, IoWrite, ConfigRead0, ConfigWrite0, ConfigRead1, ConfigWrite1, Message, MessageData, Completion, CompletionData}
use Rattle.tlp.specs.declared.packet.Packet.{Packet}

-- "a given number exceeds its field", of w bits
abbrev pub over : ℕ → ℕ → Bool
over w x = leb (2 ^ w) x

-- outside 1..most
abbrev pub outside : ℕ → ℕ → Bool
outside most n = not (leb 1 n && leb n most)

-- "a length is outside 1..1024 DW"
abbrev pub length_bad : ℕ → Bool
length_bad n = outside 1024 n

-- what every packet has; of the digest, "with TD clear it is 0, else the writer gives 6"
unfoldable pub common_bad : Packet → Bool
common_bad p =
    over 3 p.traffic_class
    || (over 3 p.attributes
    || (over 32 p.digest
    || (not p.has_digest && not (eqb p.digest 0))))

-- a memory or I/O request
unfoldable pub request_bad : Request → Bool
request_bad q =
    over 16 q.requester
    || (over 8 q.tag
    || (length_bad q.length
    || (over 4 q.first
    || over 4 q.last)))

-- a configuration request
unfoldable pub config_bad : ConfigRequest → Bool
config_bad q = over 4 q.extended_register || (over 6 q.register || request_bad q.request)

-- a message
unfoldable pub message_bad : MessageRequest → Bool
message_bad m = over 16 m.requester || (over 8 m.tag || (over 8 m.code || over 64 m.body))

-- a completion, with "a Byte Count outside 1..4096"
unfoldable pub completion_bad : CompletionHeader → Bool
completion_bad c =
    over 16 c.completer
    || (over 3 c.status
    || (outside 4096 c.byte_count
    || (over 8 c.tag
    || over 7 c.lower_address)))

-- the kind's own fields; of lengths, "Msg and Cpl have none"
unfoldable pub own_bad : Kind → Bool
own_bad (MemoryRead q) = request_bad q
own_bad (MemoryWrite q) = request_bad q
own_bad (IoRead q) = request_bad q
own_bad (IoWrite q) = request_bad q
own_bad (ConfigRead0 q) = config_bad q
own_bad (ConfigWrite0 q) = config_bad q
own_bad (ConfigRead1 q) = config_bad q
own_bad (ConfigWrite1 q) = config_bad q
own_bad (Message m) = message_bad m
own_bad (MessageData m n) = length_bad n || message_bad m
own_bad (Completion c) = completion_bad c
own_bad (CompletionData c n) = length_bad n || completion_bad c

-- "a field reserved for the kind is given nonzero": "Attr[2] in I/O and configuration"
unfoldable pub reserved_given : Packet → Bool
reserved_given p = is_io_or_config (family_of (type_of p)) && not (eqb (field p.attributes 2 1) 0)

-- "a memory or I/O address isn't a multiple of 4"; it has w bits
unfoldable pub address_route_bad : ℕ → Route → Bool
address_route_bad w (Address a) = over w a || not (eqb (a % 4) 0)
address_route_bad w (Id i) = true
address_route_bad w (Implicit i) = true

-- configuration requests and completions go by ID
unfoldable pub id_route_bad : Route → Bool
id_route_bad (Address a) = true
id_route_bad (Id i) = over 16 i
id_route_bad (Implicit i) = true

-- a message goes by the address or the ID that its bytes 8 to 15 hold, or implicitly
unfoldable pub message_route_bad : ℕ → Route → Bool
message_route_bad body (Address a) = not (eqb a body)
message_route_bad body (Id i) = not (eqb i (field body 48 16))
message_route_bad body (Implicit i) = false

-- "the route disagrees with the kind and its other fields"
unfoldable pub route_bad : Route → Kind → Bool
route_bad r (MemoryRead q) = address_route_bad 64 r
route_bad r (MemoryWrite q) = address_route_bad 64 r
route_bad r (IoRead q) = address_route_bad 32 r
route_bad r (IoWrite q) = address_route_bad 32 r
route_bad r (ConfigRead0 q) = id_route_bad r
route_bad r (ConfigWrite0 q) = id_route_bad r
route_bad r (ConfigRead1 q) = id_route_bad r
route_bad r (ConfigWrite1 q) = id_route_bad r
route_bad r (Message m) = message_route_bad m.body r
route_bad r (MessageData m n) = message_route_bad m.body r
route_bad r (Completion c) = id_route_bad r
route_bad r (CompletionData c n) = id_route_bad r

-- the first place for 6, by its causes
abbrev pub given_rows : Packet → List Row
given_rows p =
    row 6 (common_bad p)
    ∷ row 6 (own_bad p.kind)
    ∷ row 6 (reserved_given p)
    ∷ row 6 (route_bad p.route p.kind)
    ∷ []
