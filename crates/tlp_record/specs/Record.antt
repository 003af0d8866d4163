-- The packet record: what a packet holds as 48 bytes, the same for reading and writing. Numbers of several bytes have
-- the high byte first. A field that the packet's kind does not have is 0. docs/RECORD.md lists the layout. A reader
-- must believe record_of, record_packet and is_record, with all that they are built from here.
use Rattle.std.specs.Prelude.{ℕ, Bool, false, List, [], ◌∷◌, ◌++◌, eqb}
use Rattle.bits.specs.Choice.{pick, flag}
use Rattle.bits.specs.Word.{byte, word, bytes}
use Rattle.bits.specs.Same.{same_list}
use Rattle.tlp.specs.declared.packet.Implicit.TheVariants.{Root, Broadcast, Local, Gathered}
use Rattle.tlp.specs.declared.packet.Route.{Route}
use Rattle.tlp.specs.declared.packet.Route.TheVariants.{Address, Id, Implicit as Implied}
use Rattle.tlp.specs.declared.packet.Request.{Request}
use Rattle.tlp.specs.declared.packet.ConfigRequest.{ConfigRequest}
use Rattle.tlp.specs.declared.packet.MessageRequest.{MessageRequest}
use Rattle.tlp.specs.declared.packet.CompletionHeader.{CompletionHeader}
use Rattle.tlp.specs.declared.packet.Kind.{Kind}
use Rattle.tlp.specs.declared.packet.Kind.TheVariants.{MemoryRead, MemoryWrite, IoRead, IoWrite, ConfigRead0, ConfigWrite0, ConfigRead1, ConfigWrite1, Message, MessageData, Completion, CompletionData}
use Rattle.tlp.specs.declared.packet.Packet.{Packet}
use Rattle.tlp_record.specs.Places.{kind_place, traffic_class_place, attributes_place, poisoned_place, digest_present_place, route_place, tag_place, message_code_place, route_value_place, route_id_place, message_bytes_place, digest_place, length_place, byte_count_place, source_id_place, first_enables_place, last_enables_place, extended_register_place, register_place, status_place, byte_count_modified_place, lower_address_place}

-- ---- from a packet to its record

-- a kind's number and the fields that only some kinds have, each 0 where the kind has none
pub record KindFields : Type 0 where
  pub kind : ℕ
  pub tag : ℕ
  pub code : ℕ
  pub body : ℕ
  pub length : ℕ
  pub byte_count : ℕ
  pub id : ℕ
  pub first : ℕ
  pub last : ℕ
  pub extended_register : ℕ
  pub register : ℕ
  pub status : ℕ
  pub byte_count_modified : Bool
  pub lower_address : ℕ

abbrev pub request_fields : ℕ → Request → KindFields
request_fields kind q = record {
  kind = kind;
  tag = q.tag;
  code = 0;
  body = 0;
  length = q.length;
  byte_count = 0;
  id = q.requester;
  first = q.first;
  last = q.last;
  extended_register = 0;
  register = 0;
  status = 0;
  byte_count_modified = false;
  lower_address = 0;
}

abbrev pub config_fields : ℕ → ConfigRequest → KindFields
config_fields kind c = record {
  kind = kind;
  tag = c.request.tag;
  code = 0;
  body = 0;
  length = c.request.length;
  byte_count = 0;
  id = c.request.requester;
  first = c.request.first;
  last = c.request.last;
  extended_register = c.extended_register;
  register = c.register;
  status = 0;
  byte_count_modified = false;
  lower_address = 0;
}

abbrev pub message_fields : ℕ → MessageRequest → ℕ → KindFields
message_fields kind m n = record {
  kind = kind;
  tag = m.tag;
  code = m.code;
  body = m.body;
  length = n;
  byte_count = 0;
  id = m.requester;
  first = 0;
  last = 0;
  extended_register = 0;
  register = 0;
  status = 0;
  byte_count_modified = false;
  lower_address = 0;
}

abbrev pub completion_fields : ℕ → CompletionHeader → ℕ → KindFields
completion_fields kind c n = record {
  kind = kind;
  tag = c.tag;
  code = 0;
  body = 0;
  length = n;
  byte_count = c.byte_count;
  id = c.completer;
  first = 0;
  last = 0;
  extended_register = 0;
  register = 0;
  status = c.status;
  byte_count_modified = c.byte_count_modified;
  lower_address = c.lower_address;
}

-- the kinds by their numbers, 1 to 12
abbrev pub fields_of : Kind → KindFields
fields_of (MemoryRead q) = request_fields 1 q
fields_of (MemoryWrite q) = request_fields 2 q
fields_of (IoRead q) = request_fields 3 q
fields_of (IoWrite q) = request_fields 4 q
fields_of (ConfigRead0 c) = config_fields 5 c
fields_of (ConfigWrite0 c) = config_fields 6 c
fields_of (ConfigRead1 c) = config_fields 7 c
fields_of (ConfigWrite1 c) = config_fields 8 c
fields_of (Message m) = message_fields 9 m 0
fields_of (MessageData m n) = message_fields 10 m n
fields_of (Completion c) = completion_fields 11 c 0
fields_of (CompletionData c n) = completion_fields 12 c n

-- the route's case: by address, by ID, then the four implicit ones
abbrev pub route_case : Route → ℕ
route_case (Address a) = 0
route_case (Id i) = 1
route_case (Implied Root) = 2
route_case (Implied Broadcast) = 3
route_case (Implied Local) = 4
route_case (Implied Gathered) = 5

-- the address or the ID; 0 for an implicit route
abbrev pub route_value : Route → ℕ
route_value (Address a) = a
route_value (Id i) = i
route_value (Implied w) = 0

-- the six parts of eight bytes

abbrev pub front_part : Packet → KindFields → List ℕ
front_part p f = f.kind ∷ p.traffic_class ∷ p.attributes ∷ flag p.poisoned ∷ flag p.has_digest ∷ route_case p.route ∷ f.tag ∷ f.code ∷ []

abbrev pub sizes_part : ℕ → ℕ → List ℕ
sizes_part a b = bytes 4 a ++ bytes 4 b

abbrev pub count_part : KindFields → List ℕ
count_part f = bytes 4 f.byte_count ++ (bytes 2 f.id ++ (f.first ∷ f.last ∷ []))

abbrev pub end_part : KindFields → List ℕ
end_part f = f.extended_register ∷ f.register ∷ f.status ∷ flag f.byte_count_modified ∷ f.lower_address ∷ 0 ∷ 0 ∷ 0 ∷ []

abbrev pub record_with : Packet → KindFields → List ℕ
record_with p f = front_part p f ++ (bytes 8 (route_value p.route) ++ (bytes 8 f.body ++ (sizes_part p.digest f.length ++ (count_part f ++ end_part f))))

-- the record of a packet
unfoldable pub record_of : Packet → List ℕ
record_of p = record_with p (fields_of p.kind)

-- ---- from a record to the packet that it describes

unfoldable pub request_in : List ℕ → Request
request_in fields = record {
  requester = word 2 fields source_id_place;
  tag = byte fields tag_place;
  length = word 4 fields length_place;
  first = byte fields first_enables_place;
  last = byte fields last_enables_place;
}

unfoldable pub config_in : List ℕ → ConfigRequest
config_in fields = record {
  request = request_in fields;
  extended_register = byte fields extended_register_place;
  register = byte fields register_place;
}

unfoldable pub message_in : List ℕ → MessageRequest
message_in fields = record {
  requester = word 2 fields source_id_place;
  tag = byte fields tag_place;
  code = byte fields message_code_place;
  body = word 8 fields message_bytes_place;
}

unfoldable pub completion_in : List ℕ → CompletionHeader
completion_in fields = record {
  completer = word 2 fields source_id_place;
  status = byte fields status_place;
  byte_count_modified = eqb (byte fields byte_count_modified_place) 1;
  byte_count = word 4 fields byte_count_place;
  tag = byte fields tag_place;
  lower_address = byte fields lower_address_place;
}

-- a kind that is not known is read as the first, whose number it does not have
abbrev pub kind_numbered : ℕ → List ℕ → Kind
kind_numbered n fields =
    pick (eqb n 2) (MemoryWrite (request_in fields))
    (pick (eqb n 3) (IoRead (request_in fields))
    (pick (eqb n 4) (IoWrite (request_in fields))
    (pick (eqb n 5) (ConfigRead0 (config_in fields))
    (pick (eqb n 6) (ConfigWrite0 (config_in fields))
    (pick (eqb n 7) (ConfigRead1 (config_in fields))
    (pick (eqb n 8) (ConfigWrite1 (config_in fields))
    (pick (eqb n 9) (Message (message_in fields))
    (pick (eqb n 10) (MessageData (message_in fields) (word 4 fields length_place))
    (pick (eqb n 11) (Completion (completion_in fields))
    (pick (eqb n 12) (CompletionData (completion_in fields) (word 4 fields length_place))
    (MemoryRead (request_in fields))))))))))))

unfoldable pub kind_in : List ℕ → Kind
kind_in fields = kind_numbered (byte fields kind_place) fields

-- a route that is not known is read as the first
abbrev pub route_numbered : ℕ → List ℕ → Route
route_numbered n fields =
    pick (eqb n 1) (Id (word 2 fields route_id_place))
    (pick (eqb n 2) (Implied Root)
    (pick (eqb n 3) (Implied Broadcast)
    (pick (eqb n 4) (Implied Local)
    (pick (eqb n 5) (Implied Gathered)
    (Address (word 8 fields route_value_place))))))

unfoldable pub route_in : List ℕ → Route
route_in fields = route_numbered (byte fields route_place) fields

unfoldable pub record_packet : List ℕ → Packet
record_packet fields = record {
  traffic_class = byte fields traffic_class_place;
  attributes = byte fields attributes_place;
  poisoned = eqb (byte fields poisoned_place) 1;
  has_digest = eqb (byte fields digest_present_place) 1;
  digest = word 4 fields digest_place;
  route = route_in fields;
  kind = kind_in fields;
}

-- whether bytes are a record: that of the packet that they describe. One of another length than 48, of an unknown kind
-- or route, or with something in a field that the kind does not have, is not.
unfoldable pub is_record : List ℕ → Bool
is_record fields = same_list (record_of (record_packet fields)) fields
