-- What is written is bytes, where the payload is: every number below 256.
use Prim.Native.Nat.{ℕ, ◌*◌, ◌^◌}
use mathlib.Core.Path.{◌≡◌}
use mathlib.Core.Bool.{false}
use mathlib.Core.List.{List, [], ◌∷◌, ◌++◌}
use native.Mathlib.Omega.{arith}
use lib.Dec.{ltb}
use Rattle.bits.specs.Choice.{pick}
use Rattle.bits.specs.Field.{low}
use Rattle.bits.specs.Word.{bytes, Bytes}
use Rattle.bits.proofs.BytesLaws.{Each, each-bytes, bytes-each, each_append, each_of, each-pick}
use Rattle.tlp.specs.Packets.{address_of, id_of, type_of}
use Rattle.tlp.specs.declared.packet.Route.{Route}
use Rattle.tlp.specs.declared.packet.Request.{Request}
use Rattle.tlp.specs.declared.packet.ConfigRequest.{ConfigRequest}
use Rattle.tlp.specs.declared.packet.MessageRequest.{MessageRequest}
use Rattle.tlp.specs.declared.packet.CompletionHeader.{CompletionHeader}
use Rattle.tlp.specs.declared.packet.Kind.{Kind}
use Rattle.tlp.specs.declared.packet.Kind.TheVariants.{MemoryRead, MemoryWrite, IoRead, IoWrite, ConfigRead0, ConfigWrite0, ConfigRead1, ConfigWrite1, Message, MessageData, Completion, CompletionData}
use Rattle.tlp.specs.declared.packet.Packet.{Packet}
use Rattle.tlp_writable.specs.Given.{length_bad, request_bad, config_bad, message_bad, completion_bad, own_bad}
use Rattle.tlp_write.proofs.LayoutLaws.{first-le, routing-low}
use Rattle.tlp_write.specs.Layout.{request_bytes, memory_address, config_bytes, message_bytes, completion_bytes, own_bytes, front_bytes, header_of, digest_of, bytes_of}
use Rattle.tlp_demands.proofs.Tests.{right-no}
use Rattle.tlp_demands.proofs.Fits.{request-fits, config-fits, message-fits, completion-fits}
use Rattle.tlp_demands.proofs.Front.{flag-lt}

-- ---- the header from byte 4 on

request-small : (q : Request) → request_bad q ≡ false → Each (request_bytes q)
request-small q e = (omega arith, (omega arith, ((request-fits q e).tag, (omega arith, tt))))

config-small : (target : ℕ) (q : ConfigRequest) → config_bad q ≡ false → Each (config_bytes target q)
config-small target q e =
    each_append (request_bytes q.request) (bytes 2 target ++ (low q.extended_register 4 ∷ (low q.register 6 * 4) ∷ []))
    (request-small q.request (config-fits q e).request) (omega arith, (omega arith, (omega arith, (omega arith, tt))))

message-small : (m : MessageRequest) → message_bad m ≡ false → Each (message_bytes m)
message-small m e = let v = message-fits m e in (omega arith, (omega arith, (v.tag, (v.code, each_of 8 m.body))))

completion-small : (requester : ℕ) (c : CompletionHeader) → completion_bad c ≡ false → Each (completion_bytes requester c)
completion-small requester c e =
    let modified = flag-lt c.byte_count_modified in
    (omega arith, (omega arith, (omega (arith, modified), (omega arith, (omega arith, (omega arith, ((completion-fits c e).tag, (omega arith, tt))))))))

memory-small : (q : Request) (a : ℕ) → request_bad q ≡ false → Each (request_bytes q ++ memory_address a)
unfolding memory_address
memory-small q a e =
    each_append (request_bytes q) (pick (ltb a (2 ^ 32)) (bytes 4 a) (bytes 8 a)) (request-small q e)
    (each-pick (ltb a (2 ^ 32)) (bytes 4 a) (bytes 8 a) (each_of 4 a) (each_of 8 a))

io-small : (q : Request) (a : ℕ) → request_bad q ≡ false → Each (request_bytes q ++ bytes 4 a)
io-small q a e = each_append (request_bytes q) (bytes 4 a) (request-small q e) (each_of 4 a)

own-small : (r : Route) (k : Kind) → own_bad k ≡ false → Each (own_bytes r k)
unfolding own_bad own_bytes
own-small r (MemoryRead q) e = memory-small q (address_of r) e
own-small r (MemoryWrite q) e = memory-small q (address_of r) e
own-small r (IoRead q) e = io-small q (address_of r) e
own-small r (IoWrite q) e = io-small q (address_of r) e
own-small r (ConfigRead0 q) e = config-small (id_of r) q e
own-small r (ConfigWrite0 q) e = config-small (id_of r) q e
own-small r (ConfigRead1 q) e = config-small (id_of r) q e
own-small r (ConfigWrite1 q) e = config-small (id_of r) q e
own-small r (Message m) e = message-small m e
own-small r (MessageData m n) e = message-small m (right-no (length_bad n) _ e)
own-small r (Completion c) e = completion-small (id_of r) c e
own-small r (CompletionData c n) e = completion-small (id_of r) c (right-no (length_bad n) _ e)

-- ---- bytes 0 to 3

front-small : (p : Packet) → Each (front_bytes p)
unfolding front_bytes
front-small p =
    let digest = flag-lt p.has_digest in
    let poisoned = flag-lt p.poisoned in
    (omega (arith, first-le (type_of p), routing-low p.route p.kind), (omega arith, (omega (arith, digest, poisoned), (omega arith, tt))))

-- ---- the packet

pub written_small : (p : Packet) (payload : List ℕ) → own_bad p.kind ≡ false → Bytes payload → Bytes (bytes_of p payload)
unfolding bytes_of header_of digest_of
written_small p payload own small =
    let header = each_append (front_bytes p) (own_bytes p.route p.kind) (front-small p) (own-small p.route p.kind own) in
    let digest = each-pick p.has_digest (bytes 4 p.digest) [] (each_of 4 p.digest) tt in
    each-bytes (bytes_of p payload)
    (each_append (header_of p) (payload ++ digest_of p) header (each_append payload (digest_of p) (bytes-each payload small) digest))
