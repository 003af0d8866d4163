-- Document 01, "Header layout": where each field of a header stands, then what the bytes of a packet of type t hold. A
-- place past the end reads as 0. All to be believed.
use Rattle.std.specs.Prelude.{ℕ, ◌+◌, ◌-◌, ◌*◌, ◌/◌, Bool, List, eqb, length, drop}
use Rattle.bits.specs.Choice.{pick}
use Rattle.bits.specs.Field.{field, low, bit}
use Rattle.bits.specs.Word.{byte, word}
use Rattle.tlp.specs.PacketTypes.{family_of, is_io_or_config}
use Rattle.tlp.specs.Sizes.{or_most, length_at, digest_at}
use Rattle.tlp.specs.declared.packet.Implicit.{Implicit}
use Rattle.tlp.specs.declared.packet.Implicit.TheVariants.{Root, Broadcast, Local, Gathered}
use Rattle.tlp.specs.declared.packet.Route.{Route}
use Rattle.tlp.specs.declared.packet.Route.TheVariants.{Address, Id, Implicit as Implied}
use Rattle.tlp.specs.declared.packet.Request.{Request}
use Rattle.tlp.specs.declared.packet.ConfigRequest.{ConfigRequest}
use Rattle.tlp.specs.declared.packet.MessageRequest.{MessageRequest}
use Rattle.tlp.specs.declared.packet.CompletionHeader.{CompletionHeader}
use Rattle.tlp.specs.declared.packet.Kind.{Kind}
use Rattle.tlp.specs.declared.packet.Kind.TheVariants.{MemoryRead, MemoryWrite, IoRead, IoWrite, ConfigRead0, ConfigWrite0, ConfigRead1, ConfigWrite1, Message, MessageData, Completion, CompletionData}
use Rattle.tlp.specs.declared.packet.Packet.{Packet}
use Rattle.tlp.specs.declared.packet_type.PacketType.{PacketType}
use Rattle.tlp.specs.declared.packet_type.PacketType.TheVariants.{MRd32, MRd64, MWr32, MWr64, IORd, IOWr, CfgRd0, CfgWr0, CfgRd1, CfgWr1, Msg, MsgD, Cpl, CplD, Unlisted}

-- ---- every header

-- "Byte 1: TC 6:4"
abbrev pub traffic_class_at : List ℕ → ℕ
traffic_class_at bytes = field (byte bytes 1) 4 3

-- "Byte 1: .. Attr[2] bit 2"
abbrev pub high_attribute_at : List ℕ → ℕ
high_attribute_at bytes = field (byte bytes 1) 2 1

-- "Byte 2: .. Attr[1:0] 5:4"
abbrev pub low_attributes_at : List ℕ → ℕ
low_attributes_at bytes = field (byte bytes 2) 4 2

-- Attr[2:0]
abbrev pub all_attributes_at : List ℕ → ℕ
all_attributes_at bytes = high_attribute_at bytes * 4 + low_attributes_at bytes

-- Attr of a packet of type t; reserved is "Attr[2] in I/O and configuration", so ignored there
unfoldable pub attributes_at : PacketType → List ℕ → ℕ
attributes_at t bytes = pick (is_io_or_config (family_of t)) 0 (high_attribute_at bytes) * 4 + low_attributes_at bytes

-- "Byte 1: .. TH bit 0"
abbrev pub hint_at : List ℕ → Bool
hint_at bytes = eqb (low (byte bytes 1) 1) 1

-- "Byte 2: .. AT 3:2"
abbrev pub address_type_at : List ℕ → ℕ
address_type_at bytes = field (byte bytes 2) 2 2

-- "Byte 2: .. EP bit 6"
abbrev pub poisoned_at : List ℕ → Bool
poisoned_at bytes = bit (byte bytes 2) 6

-- "TD set means one trailing DW, held unread in the packet; with TD clear it is 0"
unfoldable pub digest_word : List ℕ → ℕ
digest_word bytes = pick (digest_at bytes) (word 4 (drop (length bytes - 4) bytes) 0) 0

-- ---- requests

-- "requester ID bytes 4-5"
abbrev pub requester_at : List ℕ → ℕ
requester_at bytes = word 2 bytes 4

-- "tag 6"
abbrev pub tag_at : List ℕ → ℕ
tag_at bytes = byte bytes 6

-- "first enables 3:0", of byte 7
abbrev pub first_enables_at : List ℕ → ℕ
first_enables_at bytes = low (byte bytes 7) 4

-- "last enables byte 7 bits 7:4"
abbrev pub last_enables_at : List ℕ → ℕ
last_enables_at bytes = field (byte bytes 7) 4 4

-- "address from byte 8, its low two bits reserved", of k bytes
abbrev pub address_at : ℕ → List ℕ → ℕ
address_at k bytes = word k bytes 8 / 4 * 4

-- "target ID bytes 8-9"; the same bytes are a completion's requester ID, and a message's with routing 010
abbrev pub route_id_at : List ℕ → ℕ
route_id_at bytes = word 2 bytes 8

-- "extended register byte 10 bits 3:0"
abbrev pub extended_register_at : List ℕ → ℕ
extended_register_at bytes = low (byte bytes 10) 4

-- "register byte 11 bits 7:2"
abbrev pub register_at : List ℕ → ℕ
register_at bytes = field (byte bytes 11) 2 6

-- "a message has its code in byte 7"
abbrev pub code_at : List ℕ → ℕ
code_at bytes = byte bytes 7

-- "Message: bytes 8-15 carried whole."
abbrev pub body_at : List ℕ → ℕ
body_at bytes = word 8 bytes 8

-- the low three bits of byte 0
abbrev pub routing_at : List ℕ → ℕ
routing_at bytes = low (byte bytes 0) 3

-- ---- completions

-- "completer ID 4-5"
abbrev pub completer_at : List ℕ → ℕ
completer_at bytes = word 2 bytes 4

-- "byte 6 status 7:5"
abbrev pub status_at : List ℕ → ℕ
status_at bytes = field (byte bytes 6) 5 3

-- "byte 6 .. BCM bit 4"
abbrev pub byte_count_modified_at : List ℕ → Bool
byte_count_modified_at bytes = bit (byte bytes 6) 4

-- "byte 6 .. Byte Count[11:8] 3:0; byte 7 Byte Count[7:0], 0 meaning 4096"
abbrev pub byte_count_field_at : List ℕ → ℕ
byte_count_field_at bytes = or_most 4096 (low (byte bytes 6) 4 * 256 + byte bytes 7)

-- "tag 10"
abbrev pub completion_tag_at : List ℕ → ℕ
completion_tag_at bytes = byte bytes 10

-- "Lower Address byte 11 bits 6:0"
abbrev pub lower_address_field_at : List ℕ → ℕ
lower_address_field_at bytes = low (byte bytes 11) 7

-- ---- the packet

unfoldable pub request_at : List ℕ → Request
request_at bytes = record {
  requester = requester_at bytes;
  tag = tag_at bytes;
  length = length_at bytes;
  first = first_enables_at bytes;
  last = last_enables_at bytes;
}

unfoldable pub config_at : List ℕ → ConfigRequest
config_at bytes = record {
  request = request_at bytes;
  extended_register = extended_register_at bytes;
  register = register_at bytes;
}

unfoldable pub message_at : List ℕ → MessageRequest
message_at bytes = record { requester = requester_at bytes; tag = tag_at bytes; code = code_at bytes; body = body_at bytes }

unfoldable pub completion_at : List ℕ → CompletionHeader
completion_at bytes = record {
  completer = completer_at bytes;
  status = status_at bytes;
  byte_count_modified = byte_count_modified_at bytes;
  byte_count = byte_count_field_at bytes;
  tag = completion_tag_at bytes;
  lower_address = lower_address_field_at bytes;
}

-- "000 to root, 011 broadcast, 100 local, 101 gathered"; 110 and 111 are refused (row 9)
unfoldable pub implicit_at : ℕ → Implicit
implicit_at r = pick (eqb r 3) Broadcast (pick (eqb r 4) Local (pick (eqb r 5) Gathered Root))

-- "message routing 010 by bytes 8-9"; "Message 001 goes by address."
unfoldable pub message_route_at : List ℕ → Route
message_route_at bytes =
    pick (eqb (routing_at bytes) 1) (Address (body_at bytes))
    (pick (eqb (routing_at bytes) 2) (Id (route_id_at bytes))
    (Implied (implicit_at (routing_at bytes))))

-- "by address; by ID (configuration by target, completion by requester ID, message routing 010 by bytes 8-9); or
-- implicit"
unfoldable pub route_at : PacketType → List ℕ → Route
route_at MRd32 bytes = Address (address_at 4 bytes)
route_at MRd64 bytes = Address (address_at 8 bytes)
route_at MWr32 bytes = Address (address_at 4 bytes)
route_at MWr64 bytes = Address (address_at 8 bytes)
route_at IORd bytes = Address (address_at 4 bytes)
route_at IOWr bytes = Address (address_at 4 bytes)
route_at CfgRd0 bytes = Id (route_id_at bytes)
route_at CfgWr0 bytes = Id (route_id_at bytes)
route_at CfgRd1 bytes = Id (route_id_at bytes)
route_at CfgWr1 bytes = Id (route_id_at bytes)
route_at Msg bytes = message_route_at bytes
route_at MsgD bytes = message_route_at bytes
route_at Cpl bytes = Id (route_id_at bytes)
route_at CplD bytes = Id (route_id_at bytes)
route_at Unlisted bytes = Implied Root

-- the kind with its own fields; an unlisted type is refused (row 2)
unfoldable pub kind_at : PacketType → List ℕ → Kind
kind_at MRd32 bytes = MemoryRead (request_at bytes)
kind_at MRd64 bytes = MemoryRead (request_at bytes)
kind_at MWr32 bytes = MemoryWrite (request_at bytes)
kind_at MWr64 bytes = MemoryWrite (request_at bytes)
kind_at IORd bytes = IoRead (request_at bytes)
kind_at IOWr bytes = IoWrite (request_at bytes)
kind_at CfgRd0 bytes = ConfigRead0 (config_at bytes)
kind_at CfgWr0 bytes = ConfigWrite0 (config_at bytes)
kind_at CfgRd1 bytes = ConfigRead1 (config_at bytes)
kind_at CfgWr1 bytes = ConfigWrite1 (config_at bytes)
kind_at Msg bytes = Message (message_at bytes)
kind_at MsgD bytes = MessageData (message_at bytes) (length_at bytes)
kind_at Cpl bytes = Completion (completion_at bytes)
kind_at CplD bytes = CompletionData (completion_at bytes) (length_at bytes)
kind_at Unlisted bytes = Completion (completion_at bytes)

-- the packet in bytes of type t
unfoldable pub packet_at : PacketType → List ℕ → Packet
packet_at t bytes = record {
  traffic_class = traffic_class_at bytes;
  attributes = attributes_at t bytes;
  poisoned = poisoned_at bytes;
  has_digest = digest_at bytes;
  digest = digest_word bytes;
  route = route_at t bytes;
  kind = kind_at t bytes;
}
