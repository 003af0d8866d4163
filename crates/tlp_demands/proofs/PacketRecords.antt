-- The packet back from its record: the theorems `RecordOfWritable` and `RecordOfRead`.
use Prim.Native.Nat.{ℕ, ◌^◌, ◌≤◌, ◌<◌}
use mathlib.Core.Path.{◌≡◌, refl, ap, ap₂}
use mathlib.Core.Bool.{false, true≢false}
use mathlib.Core.List.{[]}
use native.Mathlib.Omega.{arith}
use borrow.Author.Tests.{eqb-true, not-false}
use Rattle.bits.specs.Word.{byte, word}
use Rattle.bits.proofs.WordLaws.{word_bytes}
use Rattle.tlp.specs.PacketTypes.{type_at}
use Rattle.tlp.specs.declared.packet.Implicit.TheVariants.{Root, Broadcast, Local, Gathered}
use Rattle.tlp.specs.declared.packet.Route.{Route}
use Rattle.tlp.specs.declared.packet.Route.TheVariants.{Address, Id, Implicit as Implied}
use Rattle.tlp.specs.declared.packet.Request.{Request}
use Rattle.tlp.specs.declared.packet.ConfigRequest.{ConfigRequest}
use Rattle.tlp.specs.declared.packet.MessageRequest.{MessageRequest}
use Rattle.tlp.specs.declared.packet.CompletionHeader.{CompletionHeader}
use Rattle.tlp.specs.declared.packet.Kind.{Kind}
use Rattle.tlp.specs.declared.packet.Kind.TheVariants.{MemoryRead, MemoryWrite, IoRead, IoWrite, ConfigRead0, ConfigWrite0, ConfigRead1, ConfigWrite1, Message, MessageData, Completion, CompletionData}
use Rattle.tlp.specs.declared.packet.Packet.{Packet}
use Rattle.tlp_writable.specs.Given.{length_bad, request_bad, config_bad, message_bad, completion_bad, own_bad, address_route_bad, id_route_bad, message_route_bad, route_bad}
use Rattle.tlp_record.specs.Record.{KindFields, request_fields, config_fields, message_fields, completion_fields, fields_of, record_with, record_of, request_in, config_in, message_in, completion_in, kind_in, route_in, record_packet, is_record}
use Rattle.bits.proofs.SameLaws.{same_self}
use Rattle.tlp_demands.specs.PacketRecords.{RecordOfWritable, RecordOfRead}
use Rattle.tlp_demands.proofs.Tests.{left-no, right-no}
use Rattle.tlp_demands.proofs.Fits.{fits, inside, request-fits, config-fits, message-fits, completion-fits, common-fits}
use Rattle.tlp_demands.proofs.Front.{flag-back}
use Rattle.tlp_demands.proofs.ReadRows.{accepted}
use Rattle.tlp_demands.proofs.ReadGiven.{given-none}

-- ---- the packet back from its record

-- the numbers of several bytes fit their places; a number of one byte is taken as it is
record OwnFit (f : KindFields) : Type 0 where
  body : f.body < 256 ^ 8
  length : f.length < 256 ^ 4
  byte_count : f.byte_count < 256 ^ 4
  id : f.id < 256 ^ 2

-- so does the route's address or ID
abbrev RouteFit : Route → Type 0
RouteFit (Address a) = a < 256 ^ 8
RouteFit (Id i) = i < 256 ^ 2
RouteFit (Implied w) = Unit {0}

-- the fields as each layout has them

abbrev request_of : KindFields → Request
request_of f = record { requester = f.id; tag = f.tag; length = f.length; first = f.first; last = f.last }

abbrev config_of : KindFields → ConfigRequest
config_of f = record { request = request_of f; extended_register = f.extended_register; register = f.register }

abbrev message_of : KindFields → MessageRequest
message_of f = record { requester = f.id; tag = f.tag; code = f.code; body = f.body }

abbrev completion_of : KindFields → CompletionHeader
completion_of f = record {
  completer = f.id;
  status = f.status;
  byte_count_modified = f.byte_count_modified;
  byte_count = f.byte_count;
  tag = f.tag;
  lower_address = f.lower_address;
}

module _ (p : Packet) {f : KindFields} (v : OwnFit f) where
  request-back : request_in (record_with p f) ≡ request_of f
  unfolding request_in
  request-back = λ i. record {
    requester = word_bytes 2 f.id [] v.id i;
    tag = f.tag;
    length = word_bytes 4 f.length [] v.length i;
    first = f.first;
    last = f.last;
  }

  config-back : config_in (record_with p f) ≡ config_of f
  unfolding config_in
  config-back = λ i. record { request = request-back i; extended_register = f.extended_register; register = f.register }

  message-back : message_in (record_with p f) ≡ message_of f
  unfolding message_in
  message-back = λ i. record {
    requester = word_bytes 2 f.id [] v.id i;
    tag = f.tag;
    code = f.code;
    body = word_bytes 8 f.body [] v.body i;
  }

  completion-back : completion_in (record_with p f) ≡ completion_of f
  unfolding completion_in
  completion-back = λ i. record {
    completer = word_bytes 2 f.id [] v.id i;
    status = f.status;
    byte_count_modified = flag-back f.byte_count_modified _ refl i;
    byte_count = word_bytes 4 f.byte_count [] v.byte_count i;
    tag = f.tag;
    lower_address = f.lower_address;
  }

  length_back : word 4 (record_with p f) 28 ≡ f.length
  length_back = word_bytes 4 f.length [] v.length

kind-back : (p : Packet) (k : Kind) → OwnFit (fields_of k) → kind_in (record_with p (fields_of k)) ≡ k
unfolding kind_in
kind-back p (MemoryRead q) v = ap MemoryRead (request-back p v)
kind-back p (MemoryWrite q) v = ap MemoryWrite (request-back p v)
kind-back p (IoRead q) v = ap IoRead (request-back p v)
kind-back p (IoWrite q) v = ap IoWrite (request-back p v)
kind-back p (ConfigRead0 q) v = ap ConfigRead0 (config-back p v)
kind-back p (ConfigWrite0 q) v = ap ConfigWrite0 (config-back p v)
kind-back p (ConfigRead1 q) v = ap ConfigRead1 (config-back p v)
kind-back p (ConfigWrite1 q) v = ap ConfigWrite1 (config-back p v)
kind-back p (Message m) v = ap Message (message-back p v)
kind-back p (MessageData m n) v = ap₂ MessageData (message-back p v) (length_back p v)
kind-back p (Completion c) v = ap Completion (completion-back p v)
kind-back p (CompletionData c n) v = ap₂ CompletionData (completion-back p v) (length_back p v)

-- an ID is in the last two of the eight bytes that an address takes
route-back : (p : Packet) (f : KindFields) (r : Route) → p.route ≡ r → RouteFit r → route_in (record_with p f) ≡ r
unfolding route_in
route-back p f (Address a) e v = rw e (ap Address (word_bytes 8 a [] v))
route-back p f (Id n) e v = rw e (ap Id (word_bytes 2 n [] v))
route-back p f (Implied Root) e v = rw e
route-back p f (Implied Broadcast) e v = rw e
route-back p f (Implied Local) e v = rw e
route-back p f (Implied Gathered) e v = rw e

packet-back : (p : Packet) → OwnFit (fields_of p.kind) → RouteFit p.route → p.digest < 256 ^ 4 → record_packet (record_of p) ≡ p
unfolding record_packet record_of
packet-back p v r d = λ i. record {
  traffic_class = p.traffic_class;
  attributes = p.attributes;
  poisoned = flag-back p.poisoned _ refl i;
  has_digest = flag-back p.has_digest _ refl i;
  digest = word_bytes 4 p.digest [] d i;
  route = route-back p (fields_of p.kind) p.route refl r i;
  kind = kind-back p p.kind v i;
}

-- ---- what the writer's tests let through fits

request-fit : (n : ℕ) (q : Request) → request_bad q ≡ false → OwnFit (request_fields n q)
request-fit n q e = let v = request-fits q e in record {
  body = omega arith;
  length = omega (arith, inside 1024 q.length v.length);
  byte_count = omega arith;
  id = v.requester;
}

config-fit : (n : ℕ) (q : ConfigRequest) → config_bad q ≡ false → OwnFit (config_fields n q)
config-fit n q e =
    let v = request-fit n q.request (config-fits q e).request in
    record { body = v.body; length = v.length; byte_count = v.byte_count; id = v.id }

message-fit : (n l : ℕ) (m : MessageRequest) → l ≤ 1024 → message_bad m ≡ false → OwnFit (message_fields n m l)
message-fit n l m h e = let v = message-fits m e in record { body = v.body; length = omega arith; byte_count = omega arith; id = v.requester }

completion-fit : (n l : ℕ) (c : CompletionHeader) → l ≤ 1024 → completion_bad c ≡ false → OwnFit (completion_fields n c l)
completion-fit n l c h e = let v = completion-fits c e in record {
  body = omega arith;
  length = omega arith;
  byte_count = omega (arith, v.byte_count);
  id = v.completer;
}

own-fit : (k : Kind) → own_bad k ≡ false → OwnFit (fields_of k)
unfolding own_bad
own-fit (MemoryRead q) e = request-fit 1 q e
own-fit (MemoryWrite q) e = request-fit 2 q e
own-fit (IoRead q) e = request-fit 3 q e
own-fit (IoWrite q) e = request-fit 4 q e
own-fit (ConfigRead0 q) e = config-fit 5 q e
own-fit (ConfigWrite0 q) e = config-fit 6 q e
own-fit (ConfigRead1 q) e = config-fit 7 q e
own-fit (ConfigWrite1 q) e = config-fit 8 q e
own-fit (Message m) e = message-fit 9 0 m (omega arith) e
own-fit (MessageData m n) e = message-fit 10 n m (inside 1024 n (left-no (length_bad n) _ e)).1 (right-no (length_bad n) _ e)
own-fit (Completion c) e = completion-fit 11 0 c (omega arith) e
own-fit (CompletionData c n) e = completion-fit 12 n c (inside 1024 n (left-no (length_bad n) _ e)).1 (right-no (length_bad n) _ e)

address-fit : (w : ℕ) (r : Route) → 2 ^ w ≤ 256 ^ 8 → address_route_bad w r ≡ false → RouteFit r
unfolding address_route_bad
address-fit w (Address a) h e = omega (arith, fits w a (left-no _ _ e))
address-fit w (Id i) h e = absurd (true≢false e)
address-fit w (Implied i) h e = absurd (true≢false e)

id-fit : (r : Route) → id_route_bad r ≡ false → RouteFit r
unfolding id_route_bad
id-fit (Address a) e = absurd (true≢false e)
id-fit (Id i) e = fits 16 i e
id-fit (Implied i) e = absurd (true≢false e)

message-route-fit : (m : MessageRequest) (r : Route) → message_bad m ≡ false → message_route_bad m.body r ≡ false → RouteFit r
unfolding message_route_bad
message-route-fit m (Address a) o e = rw (eqb-true a m.body (not-false _ e)) (message-fits m o).body
message-route-fit m (Id i) o e = omega (arith, eqb-true i _ (not-false _ e))
message-route-fit m (Implied i) o e = tt

route-fit : (r : Route) (k : Kind) → own_bad k ≡ false → route_bad r k ≡ false → RouteFit r
unfolding own_bad route_bad
route-fit r (MemoryRead q) o e = address-fit 64 r (omega arith) e
route-fit r (MemoryWrite q) o e = address-fit 64 r (omega arith) e
route-fit r (IoRead q) o e = address-fit 32 r (omega arith) e
route-fit r (IoWrite q) o e = address-fit 32 r (omega arith) e
route-fit r (ConfigRead0 q) o e = id-fit r e
route-fit r (ConfigWrite0 q) o e = id-fit r e
route-fit r (ConfigRead1 q) o e = id-fit r e
route-fit r (ConfigWrite1 q) o e = id-fit r e
route-fit r (Message m) o e = message-route-fit m r o e
route-fit r (MessageData m n) o e = message-route-fit m r (right-no (length_bad n) _ o) e
route-fit r (Completion c) o e = id-fit r e
route-fit r (CompletionData c n) o e = id-fit r e

pub record-of-writable : RecordOfWritable
unfolding is_record
record-of-writable p (common, (own, (reserved, (route, _)))) =
    let e = packet-back p (own-fit p.kind own) (route-fit p.route p.kind own route) (common-fits p common).digest in
    record { packet = e; as_record = rw e (same_self (record_of p)) }

pub record-of-read : RecordOfRead
record-of-read c s p small e =
    let a = accepted c s p e in
    record-of-writable p (rw a.1 at (given-none s small (type_at (byte s 0)) a.0))
