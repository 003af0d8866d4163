-- The twelve kinds: each is read back from the bytes that it is written as, at the type that it is written as.
use Prim.Native.Nat.{ℕ, ◌+◌, ◌*◌, ◌^◌, ◌<◌}
use mathlib.Core.Path.{◌≡◌, refl, ap, ap₂}
use mathlib.Core.Bool.{Bool, true, false}
use mathlib.Core.List.{List, [], ◌∷◌, ◌++◌}
use native.Mathlib.Omega.{arith}
use lib.Dec.{eqb, ltb}
use lib.ListN.{length}
use borrow.Author.Tests.{ltb-true, ltb-false, le-ltb}
use Rattle.bits.specs.Choice.{pick}
use Rattle.bits.specs.Field.{low}
use Rattle.bits.specs.Word.{byte, word, bytes}
use Rattle.tlp.specs.PacketTypes.{type_at, header_dw, first_byte, family_of, is_unlisted}
use Rattle.tlp.specs.Packets.{address_of, type_in, access_in, id_of}
use Rattle.tlp.specs.Sizes.{length_at, data_bytes}
use Rattle.tlp.specs.declared.packet.Implicit.TheVariants.{Root, Broadcast, Local, Gathered}
use Rattle.tlp.specs.declared.packet.Route.{Route}
use Rattle.tlp.specs.declared.packet.Route.TheVariants.{Address, Id, Implicit as Implied}
use Rattle.tlp.specs.declared.packet.Request.{Request}
use Rattle.tlp.specs.declared.packet.ConfigRequest.{ConfigRequest}
use Rattle.tlp.specs.declared.packet.Kind.{Kind}
use Rattle.tlp.specs.declared.packet.Kind.TheVariants.{MemoryRead, MemoryWrite, IoRead, IoWrite, ConfigRead0, ConfigWrite0, ConfigRead1, ConfigWrite1, Message, MessageData, Completion, CompletionData}
use Rattle.tlp.specs.declared.packet_type.PacketType.{PacketType}
use Rattle.tlp.specs.declared.packet_type.PacketType.TheVariants.{MRd32, MRd64, MWr32, MWr64, IOWr, CfgWr0, CfgWr1, Msg, MsgD, CplD}
use Rattle.tlp_read.specs.Fields.{request_at, route_at, kind_at}
use Rattle.tlp_read.specs.Read.{routing_bad, form_bad}
use Rattle.tlp_write.specs.Layout.{routing, routing_in, request_bytes, memory_address, own_bytes}
use Rattle.tlp_writable.specs.Given.{length_bad, request_bad, config_bad, own_bad, route_bad}
use Rattle.tlp_demands.proofs.Tests.{left-no, right-no}
use Rattle.tlp_demands.proofs.Fits.{request-fits, config-fits}
use Rattle.tlp_demands.proofs.Layouts.{top-word, LengthBack, request-back, config-back, message-back, completion-back}
use Rattle.tlp_demands.proofs.Layouts.{AddressFits, address-fits, address-route, id-route, routing-small, message-route}

-- what the reader finds in the bytes s of a packet of type t with a route and a kind, whose header goes on with own after byte 3
pub record KindBack (r : Route) (k : Kind) (t : PacketType) (own s : List ℕ) : Type 0 where
  pub type : type_at (byte s 0) ≡ t
  pub listed : is_unlisted (family_of t) ≡ false
  pub three : ltb (header_dw t) 3 ≡ false
  pub header : 4 + length own ≡ 4 * header_dw t
  pub kind : kind_at t s ≡ k
  pub route : route_at t s ≡ r
  pub «data» : data_bytes t (length_at s) ≡ data_bytes t (access_in (address_of r) k).length
  pub routing : routing_bad t s ≡ false
  pub form : form_bad t s ≡ false

-- the fields in an order that puts first what a table computes
back : {r : Route} {k : Kind} {t : PacketType} {own s : List ℕ}
    → type_at (byte s 0) ≡ t → is_unlisted (family_of t) ≡ false → ltb (header_dw t) 3 ≡ false → 4 + length own ≡ 4 * header_dw t
    → routing_bad t s ≡ false → form_bad t s ≡ false
    → kind_at t s ≡ k → route_at t s ≡ r → data_bytes t (length_at s) ≡ data_bytes t (access_in (address_of r) k).length → KindBack r k t own s
back e u h n g f k r d = record { type = e; listed = u; three = h; header = n; kind = k; route = r; «data» = d; routing = g; form = f }

-- a message's byte 0: its type with its routing
message-type : (r : Route) → (type_at (0x30 + routing r) ≡ Msg) × (type_at (0x70 + routing r) ≡ MsgD)
unfolding type_at
message-type (Address a) = (refl, refl)
message-type (Id i) = (refl, refl)
message-type (Implied Root) = (refl, refl)
message-type (Implied Broadcast) = (refl, refl)
message-type (Implied Local) = (refl, refl)
message-type (Implied Gathered) = (refl, refl)

message-first : (r : Route) (b : ℕ) → low b 3 ≡ 0 → low (b + routing r) 3 ≡ routing r
message-first r b e = omega (arith, routing-small r)

routing-good : (b : ℕ) (r : Route) → low b 3 ≡ routing r → ltb 5 (low b 3) ≡ false
routing-good b r e = rw e (le-ltb 5 (routing r) (routing-small r))

module _ (b1 b2 b3 : ℕ) (rest : List ℕ) where
  abbrev laid : ℕ → List ℕ → List ℕ
  laid b0 own = b0 ∷ b1 ∷ b2 ∷ b3 ∷ (own ++ rest)

  request-length : (q : Request) → request_bad q ≡ false → LengthBack b2 b3 q.length → length_at (laid 0 []) ≡ q.length
  unfolding length_at
  request-length q o len = len (request-fits q o).length

  config-length : (q : ConfigRequest) → config_bad q ≡ false → LengthBack b2 b3 q.request.length → length_at (laid 0 []) ≡ q.request.length
  config-length q o len = request-length q.request (config-fits q o).request len

  -- memory requests: of the 32-bit form where narrow
  module _ (r : Route) (q : Request) (o : request_bad q ≡ false) (a : AddressFits 64 r) (len : LengthBack b2 b3 q.length) where
    abbrev own : Bool → List ℕ
    own narrow = request_bytes q ++ pick narrow (bytes 4 (address_of r)) (bytes 8 (address_of r))

    abbrev Memory : Kind → PacketType → PacketType → Type 0
    Memory k t32 t64 =
        (narrow : Bool) → ltb (address_of r) (2 ^ 32) ≡ narrow
        → KindBack r k (pick narrow t32 t64) (own narrow) (laid (first_byte (pick narrow t32 t64) + 0) (own narrow))

    request : (k b0 : ℕ) → request_at (laid b0 (request_bytes q ++ bytes k (address_of r))) ≡ q
    request k b0 = request-back b0 b1 b2 b3 rest q (bytes k (address_of r)) o len

    below : ltb (address_of r) (2 ^ 32) ≡ true → address_of r < 2 ^ 32
    below e = ltb-true (address_of r) (2 ^ 32) e

    top : ltb (address_of r) (2 ^ 32) ≡ false → eqb (word 4 (bytes 8 (address_of r) ++ []) 0) 0 ≡ false
    top e = top-word (address_of r) [] (ltb-false (address_of r) (2 ^ 32) e) a.fits

    memory-read : Memory (MemoryRead q) MRd32 MRd64
    unfolding type_at kind_at route_at data_bytes routing_bad form_bad
    memory-read true e = back refl refl refl refl refl refl (ap MemoryRead (request 4 _)) (address-route 4 a (below e)) refl
    memory-read false e = back refl refl refl refl refl (top e) (ap MemoryRead (request 8 _)) (address-route 8 a a.fits) refl

    memory-write : Memory (MemoryWrite q) MWr32 MWr64
    unfolding type_at kind_at route_at data_bytes routing_bad form_bad length_at
    memory-write true e =
        back refl refl refl refl refl refl (ap MemoryWrite (request 4 _)) (address-route 4 a (below e))
        (ap (data_bytes MWr32) (request-length q o len))
    memory-write false e =
        back refl refl refl refl refl (top e) (ap MemoryWrite (request 8 _)) (address-route 8 a a.fits)
        (ap (data_bytes MWr64) (request-length q o len))

  -- every kind, of a length that the bytes give back
  pub own_back : (r : Route) (k : Kind) → own_bad k ≡ false → route_bad r k ≡ false → LengthBack b2 b3 (access_in (address_of r) k).length
      → KindBack r k (type_in (address_of r) k) (own_bytes r k) (laid (first_byte (type_in (address_of r) k) + routing_in r k) (own_bytes r k))
  unfolding own_bad route_bad own_bytes memory_address routing_in type_at kind_at route_at data_bytes routing_bad form_bad length_at
  own_back r (MemoryRead q) o e len = memory-read r q o (address-fits 64 r e) len (ltb (address_of r) (2 ^ 32)) refl
  own_back r (MemoryWrite q) o e len = memory-write r q o (address-fits 64 r e) len (ltb (address_of r) (2 ^ 32)) refl
  own_back r (IoRead q) o e len =
      let a = address-fits 32 r e in
      back refl refl refl refl refl refl (ap IoRead (request-back _ b1 b2 b3 rest q (bytes 4 (address_of r)) o len)) (address-route 4 a a.fits) refl
  own_back r (IoWrite q) o e len =
      let a = address-fits 32 r e in
      back refl refl refl refl refl refl (ap IoWrite (request-back _ b1 b2 b3 rest q (bytes 4 (address_of r)) o len))
      (address-route 4 a a.fits) (ap (data_bytes IOWr) (request-length q o len))
  own_back r (ConfigRead0 q) o e len =
      back refl refl refl refl refl refl (ap ConfigRead0 (config-back _ b1 b2 b3 rest (id_of r) q o len)) (id-route r e) refl
  own_back r (ConfigWrite0 q) o e len =
      back refl refl refl refl refl refl (ap ConfigWrite0 (config-back _ b1 b2 b3 rest (id_of r) q o len)) (id-route r e)
      (ap (data_bytes CfgWr0) (config-length q o len))
  own_back r (ConfigRead1 q) o e len =
      back refl refl refl refl refl refl (ap ConfigRead1 (config-back _ b1 b2 b3 rest (id_of r) q o len)) (id-route r e) refl
  own_back r (ConfigWrite1 q) o e len =
      back refl refl refl refl refl refl (ap ConfigWrite1 (config-back _ b1 b2 b3 rest (id_of r) q o len)) (id-route r e)
      (ap (data_bytes CfgWr1) (config-length q o len))
  own_back r (Message m) o e len =
      let g = message-first r 0x30 refl in
      back (message-type r).0 refl refl refl (routing-good _ r g) refl (ap Message (message-back _ b1 b2 b3 rest m o))
      (message-route r m _ b1 b2 b3 rest o e g) refl
  own_back r (MessageData m n) o e len =
      let g = message-first r 0x70 refl in
      let l = len (left-no (length_bad n) _ o) in
      let v = right-no (length_bad n) _ o in
      back (message-type r).1 refl refl refl (routing-good _ r g) refl (ap₂ MessageData (message-back _ b1 b2 b3 rest m v) l)
      (message-route r m _ b1 b2 b3 rest v e g) (ap (data_bytes MsgD) l)
  own_back r (Completion c) o e len =
      back refl refl refl refl refl refl (ap Completion (completion-back _ b1 b2 b3 rest (id_of r) c o)) (id-route r e) refl
  own_back r (CompletionData c n) o e len =
      let l = len (left-no (length_bad n) _ o) in
      let v = right-no (length_bad n) _ o in
      back refl refl refl refl refl refl (ap₂ CompletionData (completion-back _ b1 b2 b3 rest (id_of r) c v) l) (id-route r e) (ap (data_bytes CplD) l)
