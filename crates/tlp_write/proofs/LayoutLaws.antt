-- Laws of a packet's layout: byte 0, and how long a header is.
use Prim.Native.Nat.{ℕ, ◌+◌, ◌*◌, ◌^◌, ◌≤◌}
use mathlib.Core.Path.{◌≡◌, refl, ap}
use mathlib.Core.Bool.{Bool, true, false}
use mathlib.Core.List.{List, [], ◌∷◌, ◌++◌}
use native.Mathlib.Omega.{arith}
use lib.Dec.{eqb, ltb, lit≤}
use lib.ListN.{length, take}
use lib.Seq.{take-take, take-append_seam}
use Rattle.bits.specs.Choice.{pick}
use Rattle.bits.specs.Field.{low}
use Rattle.bits.specs.Word.{bytes}
use Rattle.tlp.specs.PacketTypes.{first_byte, header_dw}
use Rattle.tlp.specs.Packets.{address_of, memory_form, type_in, type_of}
use Rattle.tlp.proofs.Bounds.{header-le}
use Rattle.tlp.specs.declared.packet_type.PacketType.{PacketType}
use Rattle.tlp.specs.declared.packet_type.PacketType.TheVariants.{MRd32, MRd64, MWr32, MWr64, IORd, IOWr, CfgRd0, CfgWr0, CfgRd1, CfgWr1, Msg, MsgD, Cpl, CplD, Unlisted}
use Rattle.tlp.specs.declared.packet.Implicit.TheVariants.{Root, Broadcast, Local, Gathered}
use Rattle.tlp.specs.declared.packet.Route.{Route}
use Rattle.tlp.specs.declared.packet.Route.TheVariants.{Address, Id, Implicit as Implied}
use Rattle.tlp.specs.declared.packet.Kind.{Kind}
use Rattle.tlp.specs.declared.packet.Kind.TheVariants.{MemoryRead, MemoryWrite, IoRead, IoWrite, ConfigRead0, ConfigWrite0, ConfigRead1, ConfigWrite1, Message, MessageData, Completion, CompletionData}
use Rattle.tlp.specs.declared.packet.Packet.{Packet}
use Rattle.tlp_write.specs.Layout.{routing, routing_in, memory_address, own_bytes, front_bytes, header_of}
use Rattle.tlp_write.specs.Inner.Padded.{padded}

-- ---- byte 0

pub first-le : (t : PacketType) → first_byte t ≤ 112
first-le MRd32 = lit≤ tt
first-le MRd64 = lit≤ tt
first-le MWr32 = lit≤ tt
first-le MWr64 = lit≤ tt
first-le IORd = lit≤ tt
first-le IOWr = lit≤ tt
first-le CfgRd0 = lit≤ tt
first-le CfgWr0 = lit≤ tt
first-le CfgRd1 = lit≤ tt
first-le CfgWr1 = lit≤ tt
first-le Msg = lit≤ tt
first-le MsgD = lit≤ tt
first-le Cpl = lit≤ tt
first-le CplD = lit≤ tt
first-le Unlisted = lit≤ tt

message-low : (r : Route) → low (routing r) 3 ≡ routing r
message-low (Address a) = refl
message-low (Id i) = refl
message-low (Implied Root) = refl
message-low (Implied Broadcast) = refl
message-low (Implied Local) = refl
message-low (Implied Gathered) = refl

pub routing-low : (r : Route) (k : Kind) → low (routing_in r k) 3 ≡ routing_in r k
unfolding routing_in
routing-low r (MemoryRead q) = refl
routing-low r (MemoryWrite q) = refl
routing-low r (IoRead q) = refl
routing-low r (IoWrite q) = refl
routing-low r (ConfigRead0 q) = refl
routing-low r (ConfigWrite0 q) = refl
routing-low r (ConfigRead1 q) = refl
routing-low r (ConfigWrite1 q) = refl
routing-low r (Message m) = message-low r
routing-low r (MessageData m n) = message-low r
routing-low r (Completion c) = refl
routing-low r (CompletionData c n) = refl

-- ---- sizes

memory-length : (a : ℕ) (s t : PacketType) → header_dw s ≡ 3 → header_dw t ≡ 4 → 8 + length (memory_address a) ≡ 4 * header_dw (memory_form a s t)
unfolding memory_address
memory-length a s t e h = by (ltb a (2 ^ 32))
  where
    by : (b : Bool) → 8 + length (pick b (bytes 4 a) (bytes 8 a)) ≡ 4 * header_dw (pick b s t)
    by true = rw e
    by false = rw h

own-length : (r : Route) (k : Kind) → 4 + length (own_bytes r k) ≡ 4 * header_dw (type_in (address_of r) k)
unfolding own_bytes
own-length r (MemoryRead q) = omega (arith, memory-length (address_of r) MRd32 MRd64 refl refl)
own-length r (MemoryWrite q) = omega (arith, memory-length (address_of r) MWr32 MWr64 refl refl)
own-length r (IoRead q) = refl
own-length r (IoWrite q) = refl
own-length r (ConfigRead0 q) = refl
own-length r (ConfigWrite0 q) = refl
own-length r (ConfigRead1 q) = refl
own-length r (ConfigWrite1 q) = refl
own-length r (Message m) = refl
own-length r (MessageData m n) = refl
own-length r (Completion c) = refl
own-length r (CompletionData c n) = refl

pub header-length : (p : Packet) → length (header_of p) ≡ 4 * header_dw (type_of p)
unfolding header_of front_bytes type_of
header-length p = omega (arith, own-length p.route p.kind)

padded-front : (n : ℕ) (xs : List ℕ) → length xs ≤ n → take (length xs) (padded n xs) ≡ xs
padded-front n xs h = rw (take-take (length xs) n (xs ++ (0 ∷ 0 ∷ 0 ∷ 0 ∷ [])) h) (take-append_seam xs _)

pub header-front : (p : Packet) → take (length (header_of p)) (front_bytes p ++ padded 12 (own_bytes p.route p.kind)) ≡ header_of p
unfolding header_of front_bytes
header-front p =
    let o = own_bytes p.route p.kind in
    let h : length o ≤ 12 = omega (arith, own-length p.route p.kind, header-le (type_in (address_of p.route) p.kind)) in
    ap (λ (x : List ℕ). front_bytes p ++ x) (padded-front 12 o h)

-- a type that packets are written as has three doublewords or four
pub three-or-four : (p : Packet) → pick (eqb (header_dw (type_of p)) 4) 16 12 ≡ 4 * header_dw (type_of p)
unfolding type_of
three-or-four p = by p.kind
  where
    form : (b : Bool) (s t : PacketType) → header_dw s ≡ 3 → header_dw t ≡ 4 → pick (eqb (header_dw (pick b s t)) 4) 16 12 ≡ 4 * header_dw (pick b s t)
    form true s t e h = rw e
    form false s t e h = rw h

    by : (k : Kind) → pick (eqb (header_dw (type_in (address_of p.route) k)) 4) 16 12 ≡ 4 * header_dw (type_in (address_of p.route) k)
    by (MemoryRead q) = form (ltb (address_of p.route) (2 ^ 32)) MRd32 MRd64 refl refl
    by (MemoryWrite q) = form (ltb (address_of p.route) (2 ^ 32)) MWr32 MWr64 refl refl
    by (IoRead q) = refl
    by (IoWrite q) = refl
    by (ConfigRead0 q) = refl
    by (ConfigWrite0 q) = refl
    by (ConfigRead1 q) = refl
    by (ConfigWrite1 q) = refl
    by (Message m) = refl
    by (MessageData m n) = refl
    by (Completion c) = refl
    by (CompletionData c n) = refl
