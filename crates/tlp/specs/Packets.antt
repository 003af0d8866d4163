-- What a packet's fields say of the packet as a whole. All to be believed.
use Rattle.std.specs.Prelude.{ℕ, ◌^◌, ltb}
use Rattle.bits.specs.Choice.{pick}
use Rattle.byte_enables.specs.declared.Access.{Access}
use Rattle.tlp.specs.declared.packet.Route.{Route}
use Rattle.tlp.specs.declared.packet.Route.TheVariants.{Address, Id, Implicit}
use Rattle.tlp.specs.declared.packet.Request.{Request}
use Rattle.tlp.specs.declared.packet.Kind.{Kind}
use Rattle.tlp.specs.declared.packet.Kind.TheVariants.{MemoryRead, MemoryWrite, IoRead, IoWrite, ConfigRead0, ConfigWrite0, ConfigRead1, ConfigWrite1, Message, MessageData, Completion, CompletionData}
use Rattle.tlp.specs.declared.packet.Packet.{Packet}
use Rattle.tlp.specs.declared.packet_type.PacketType.{PacketType}
use Rattle.tlp.specs.declared.packet_type.PacketType.TheVariants.{MRd32, MRd64, MWr32, MWr64, IORd, IOWr, CfgRd0, CfgWr0, CfgRd1, CfgWr1, Msg, MsgD, Cpl, CplD}

-- the address of a route; 0 where it has none
abbrev pub address_of : Route → ℕ
address_of (Address a) = a
address_of (Id i) = 0
address_of (Implicit w) = 0

-- the ID of a route; 0 where it has none
abbrev pub id_of : Route → ℕ
id_of (Address a) = 0
id_of (Id i) = i
id_of (Implicit w) = 0

-- "the 32-bit form for memory addresses below 4 GiB, the 64-bit form for others"
abbrev pub memory_form : ℕ → PacketType → PacketType → PacketType
memory_form a narrow wide = pick (ltb a (2 ^ 32)) narrow wide

-- the same by the kind and the route's address
abbrev pub type_in : ℕ → Kind → PacketType
type_in a (MemoryRead q) = memory_form a MRd32 MRd64
type_in a (MemoryWrite q) = memory_form a MWr32 MWr64
type_in a (IoRead q) = IORd
type_in a (IoWrite q) = IOWr
type_in a (ConfigRead0 q) = CfgRd0
type_in a (ConfigWrite0 q) = CfgWr0
type_in a (ConfigRead1 q) = CfgRd1
type_in a (ConfigWrite1 q) = CfgWr1
type_in a (Message q) = Msg
type_in a (MessageData m n) = MsgD
type_in a (Completion q) = Cpl
type_in a (CompletionData c n) = CplD

-- the type that a packet is written as
unfoldable pub type_of : Packet → PacketType
type_of p = type_in (address_of p.route) p.kind

-- a request's address, length and enables
abbrev pub access_at : ℕ → Request → Access
access_at a q = record { address = a; length = q.length; first = q.first; last = q.last }

-- a length with no address and no enables
abbrev pub length_alone : ℕ → Access
length_alone n = record { address = 0; length = n; first = 0; last = 0 }

-- address, length and enables by the kind
abbrev pub access_in : ℕ → Kind → Access
access_in a (MemoryRead q) = access_at a q
access_in a (MemoryWrite q) = access_at a q
access_in a (IoRead q) = access_at a q
access_in a (IoWrite q) = access_at a q
access_in a (ConfigRead0 q) = access_at a q.request
access_in a (ConfigWrite0 q) = access_at a q.request
access_in a (ConfigRead1 q) = access_at a q.request
access_in a (ConfigWrite1 q) = access_at a q.request
access_in a (Message q) = length_alone 0
access_in a (MessageData m n) = length_alone n
access_in a (Completion q) = length_alone 0
access_in a (CompletionData c n) = length_alone n

-- address, length and enables, each 0 where the kind has none: of lengths, "Msg and Cpl have none"
unfoldable pub access_of : Packet → Access
access_of p = access_in (address_of p.route) p.kind
