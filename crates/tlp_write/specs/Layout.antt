-- Document 01, the header layout: the bytes that a packet is written as. Reserved bits are zero. A reader must believe
-- bytes_of and size_of, with all that they are built from here.
use Rattle.std.specs.Prelude.{ℕ, ◌+◌, ◌*◌, ◌^◌, List, [], ◌∷◌, ◌++◌, ltb}
use Rattle.bits.specs.Choice.{pick, flag}
use Rattle.bits.specs.Field.{field, low}
use Rattle.bits.specs.Word.{bytes}
use Rattle.tlp.specs.PacketTypes.{first_byte, header_dw}
use Rattle.tlp.specs.Packets.{address_of, id_of, type_of, access_of}
use Rattle.tlp.specs.Sizes.{data_bytes, digest_bytes}
use Rattle.tlp.specs.declared.packet.Implicit.TheVariants.{Root, Broadcast, Local, Gathered}
use Rattle.tlp.specs.declared.packet.Route.{Route}
use Rattle.tlp.specs.declared.packet.Route.TheVariants.{Address, Id, Implicit as Implied}
use Rattle.tlp.specs.declared.packet.Request.{Request}
use Rattle.tlp.specs.declared.packet.ConfigRequest.{ConfigRequest}
use Rattle.tlp.specs.declared.packet.MessageRequest.{MessageRequest}
use Rattle.tlp.specs.declared.packet.CompletionHeader.{CompletionHeader}
use Rattle.tlp.specs.declared.packet.Kind.{Kind}
use Rattle.tlp.specs.declared.packet.Kind.TheVariants.{MemoryRead, MemoryWrite, IoRead, IoWrite, ConfigRead0, ConfigWrite0, ConfigRead1, ConfigWrite1, Message, MessageData, Completion, CompletionData}
use Rattle.tlp.specs.declared.packet.Packet.{Packet}

-- "000 to root, 011 broadcast, 100 local, 101 gathered. Message 001 goes by address", 010 by ID
abbrev pub routing : Route → ℕ
routing (Address a) = 1
routing (Id i) = 2
routing (Implied Root) = 0
routing (Implied Broadcast) = 3
routing (Implied Local) = 4
routing (Implied Gathered) = 5

-- what byte 0 has beside the type: a message's routing
unfoldable pub routing_in : Route → Kind → ℕ
routing_in r (MemoryRead q) = 0
routing_in r (MemoryWrite q) = 0
routing_in r (IoRead q) = 0
routing_in r (IoWrite q) = 0
routing_in r (ConfigRead0 q) = 0
routing_in r (ConfigWrite0 q) = 0
routing_in r (ConfigRead1 q) = 0
routing_in r (ConfigWrite1 q) = 0
routing_in r (Message m) = routing r
routing_in r (MessageData m n) = routing r
routing_in r (Completion c) = 0
routing_in r (CompletionData c n) = 0

-- bytes 4 to 7 of a memory, I/O or configuration request
abbrev pub request_bytes : Request → List ℕ
request_bytes q = bytes 2 q.requester ++ (q.tag ∷ (low q.last 4 * 16 + low q.first 4) ∷ [])

-- bytes 8 on of a memory request: four bytes of address, or eight
unfoldable pub memory_address : ℕ → List ℕ
memory_address a = pick (ltb a (2 ^ 32)) (bytes 4 a) (bytes 8 a)

abbrev pub config_bytes : ℕ → ConfigRequest → List ℕ
config_bytes target q = request_bytes q.request ++ (bytes 2 target ++ (low q.extended_register 4 ∷ (low q.register 6 * 4) ∷ []))

abbrev pub message_bytes : MessageRequest → List ℕ
message_bytes m = bytes 2 m.requester ++ (m.tag ∷ m.code ∷ bytes 8 m.body)

abbrev pub completion_bytes : ℕ → CompletionHeader → List ℕ
completion_bytes requester c =
    bytes 2 c.completer
    ++ ((low c.status 3 * 32 + flag c.byte_count_modified * 16 + field c.byte_count 8 4)
    ∷ low c.byte_count 8
    ∷ (bytes 2 requester ++ (c.tag ∷ low c.lower_address 7 ∷ [])))

-- the bytes of the header from byte 4 on
unfoldable pub own_bytes : Route → Kind → List ℕ
own_bytes r (MemoryRead q) = request_bytes q ++ memory_address (address_of r)
own_bytes r (MemoryWrite q) = request_bytes q ++ memory_address (address_of r)
own_bytes r (IoRead q) = request_bytes q ++ bytes 4 (address_of r)
own_bytes r (IoWrite q) = request_bytes q ++ bytes 4 (address_of r)
own_bytes r (ConfigRead0 q) = config_bytes (id_of r) q
own_bytes r (ConfigWrite0 q) = config_bytes (id_of r) q
own_bytes r (ConfigRead1 q) = config_bytes (id_of r) q
own_bytes r (ConfigWrite1 q) = config_bytes (id_of r) q
own_bytes r (Message m) = message_bytes m
own_bytes r (MessageData m n) = message_bytes m
own_bytes r (Completion c) = completion_bytes (id_of r) c
own_bytes r (CompletionData c n) = completion_bytes (id_of r) c

-- bytes 0 to 3; a length of 1024 is written as 0, as its low ten bits are
unfoldable pub front_bytes : Packet → List ℕ
front_bytes p =
    (first_byte (type_of p) + routing_in p.route p.kind)
    ∷ (low p.traffic_class 3 * 16 + field p.attributes 2 1 * 4)
    ∷ (flag p.has_digest * 128 + flag p.poisoned * 64 + low p.attributes 2 * 16 + field (access_of p).length 8 2)
    ∷ low (access_of p).length 8
    ∷ []

unfoldable pub header_of : Packet → List ℕ
header_of p = front_bytes p ++ own_bytes p.route p.kind

-- "one trailing DW" where TD is set
unfoldable pub digest_of : Packet → List ℕ
digest_of p = pick p.has_digest (bytes 4 p.digest) []

-- the whole packet
unfoldable pub bytes_of : Packet → List ℕ → List ℕ
bytes_of p payload = header_of p ++ (payload ++ digest_of p)

-- its size: "header + data + digest"
unfoldable pub size_of : Packet → ℕ
size_of p = 4 * header_dw (type_of p) + data_bytes (type_of p) (access_of p).length + digest_bytes p.has_digest
