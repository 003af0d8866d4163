-- The bytes that a packet is written as are read back as the packet.
use Prim.Native.Nat.{ℕ, zero, suc, ◌-◌, ◌*◌, ◌^◌, ◌<◌, ◌≤◌}
use mathlib.Core.Path.{◌≡◌, refl, sym, ap, ◌∙◌}
use mathlib.Core.Bool.{Bool, true, false, ◌&&◌, not, and-false}
use mathlib.Core.List.{List, [], ◌++◌, append_assoc}
use native.Mathlib.Omega.{arith}
use lib.Dec.{eqb, ltb}
use lib.ListN.{length, drop, length-append}
use lib.Seq.{take_at, drop_at}
use borrow.Author.Tests.{eq-eqb, eqb-true, not-false, le-ltb, ltb-false}
use Rattle.bits.specs.Choice.{pick}
use Rattle.bits.specs.Word.{byte, word, bytes}
use Rattle.bits.proofs.WordLaws.{word_bytes}
use Rattle.std.specs.Prelude.{Ok}
use Rattle.tlp.specs.Refusals.{answered}
use Rattle.tlp.specs.PacketTypes.{type_at, header_dw, family_of, is_memory}
use Rattle.tlp.specs.Packets.{type_of, access_of}
use Rattle.tlp.specs.Rows.{first, NoneHold}
use Rattle.tlp.specs.Sizes.{length_at, data_bytes, digest_bytes, bytes_called}
use Rattle.tlp.specs.Settings.{settings_listed}
use Rattle.tlp.specs.Contents.{content_rows}
use Rattle.tlp.specs.declared.settings.Settings.{Settings}
use Rattle.tlp.specs.declared.packet.Packet.{Packet}
use Rattle.tlp_read.specs.Fields.{address_type_at, digest_word, packet_at}
use Rattle.tlp_read.specs.Read.{hint_or_address_type_set, read_rows, read_packet, payload_of}
use Rattle.tlp_write.specs.Layout.{front_bytes, own_bytes, header_of, digest_of, bytes_of, size_of}
use Rattle.tlp_writable.specs.Given.{common_bad, own_bad, reserved_given, route_bad}
use Rattle.tlp_write.specs.Write.{write_rows, write_packet}
use Rattle.tlp.proofs.RowLaws.{none_first, first-none}
use Rattle.tlp_demands.proofs.Fits.{common-fits}
use Rattle.tlp_demands.proofs.Front.{FrontBack, front-back}
use Rattle.tlp_demands.proofs.EachKind.{KindBack, own_back}

-- the digest is what stands last, where there is one
digest-back : (td : Bool) (before : List ℕ) (d : ℕ) → d < 2 ^ 32 → (td ≡ false → d ≡ 0)
    → pick td (word 4 (drop (length (before ++ pick td (bytes 4 d) []) - 4) (before ++ pick td (bytes 4 d) [])) 0) 0 ≡ d
digest-back true before d h z =
    let e : length before ≡ length (before ++ bytes 4 d) - 4 = omega (arith, length-append before (bytes 4 d)) in
    rw (drop_at before (bytes 4 d) _ e) (word_bytes 4 d [] h)
digest-back false before d h z = sym (z refl)

digest-size : (td : Bool) (d : ℕ) → length (pick td (bytes 4 d) []) ≡ digest_bytes td
unfolding digest_bytes
digest-size true d = refl
digest-size false d = refl

no_both : (a b : Bool) → (a ≡ true → b ≡ false) → a && b ≡ false
no_both true b h = h refl
no_both false b h = refl

-- what the writer's rows leave of a packet and the size of its payload
record Fit (p : Packet) (payload : List ℕ) : Type 0 where
  common : common_bad p ≡ false
  own : own_bad p.kind ≡ false
  reserved : reserved_given p ≡ false
  route : route_bad p.route p.kind ≡ false
  lent : length payload ≡ data_bytes (type_of p) (access_of p).length

-- the packet's bytes read back
module _ (p : Packet) (payload : List ℕ) (f : Fit p payload) where
  front : FrontBack p (bytes_of p payload)
  unfolding bytes_of header_of front_bytes
  front = front-back p (own_bytes p.route p.kind ++ (payload ++ digest_of p)) (common-fits p f.common) f.reserved

  own : KindBack p.route p.kind (type_of p) (own_bytes p.route p.kind) (bytes_of p payload)
  unfolding bytes_of header_of front_bytes type_of access_of length_at
  own = own_back _ _ _ (payload ++ digest_of p) p.route p.kind f.own f.route front.length

  digest : digest_word (bytes_of p payload) ≡ p.digest
  unfolding digest_word bytes_of digest_of
  digest =
      let v = common-fits p f.common in
      rw (front.has_digest, ← append_assoc) (digest-back p.has_digest (header_of p ++ payload) p.digest v.digest v.none)

  packet : packet_at (type_of p) (bytes_of p payload) ≡ p
  unfolding packet_at
  packet = λ i. record {
    traffic_class = front.traffic_class i;
    attributes = front.attributes i;
    poisoned = front.poisoned i;
    has_digest = front.has_digest i;
    digest = digest i;
    route = own.route i;
    kind = own.kind i;
  }

  header : length (header_of p) ≡ 4 * header_dw (type_of p)
  unfolding header_of front_bytes
  header = omega (arith, own.header)

  packet-size : length (bytes_of p payload) ≡ size_of p
  unfolding bytes_of digest_of size_of
  packet-size = rw (length-append (header_of p), length-append payload, header, f.lent, digest-size) (omega arith)

  called : bytes_called (type_of p) (bytes_of p payload) ≡ size_of p
  unfolding bytes_called size_of access_of
  called = rw (own.«data», front.has_digest)

  same-payload : payload_of p (bytes_of p payload) ≡ payload
  unfolding payload_of bytes_of
  same-payload = rw (drop_at (header_of p) (payload ++ digest_of p) _ header, take_at payload (digest_of p) _ f.lent)

  long : 4 * header_dw (type_of p) ≤ length (bytes_of p payload)
  unfolding size_of
  long = omega (arith, packet-size)

  three : ltb (length (bytes_of p payload)) 12 ≡ false
  three = le-ltb (length (bytes_of p payload)) 12 (omega (arith, long, ltb-false (header_dw (type_of p)) 3 own.three))

  four : eqb (header_dw (type_of p)) 4 && ltb (length (bytes_of p payload)) 16 ≡ false
  four = no_both (eqb (header_dw (type_of p)) 4) _ (λ e. le-ltb (length (bytes_of p payload)) 16 (omega (arith, long, eqb-true (header_dw (type_of p)) 4 e)))

  size_is : not (eqb (length (bytes_of p payload)) (bytes_called (type_of p) (bytes_of p payload))) ≡ false
  size_is = ap not (eq-eqb _ _ (packet-size ∙ sym called))

  hints : hint_or_address_type_set (type_of p) (bytes_of p payload) ≡ false
  unfolding hint_or_address_type_set
  hints = rw (front.hint, front.address_type) (and-false (is_memory (family_of (type_of p))))

  -- rows 5 to 8 are the writer's own
  content : (mps : ℕ) → NoneHold (content_rows mps (type_of p) p 0)
      → NoneHold (content_rows mps (type_of p) (packet_at (type_of p) (bytes_of p payload)) (address_type_at (bytes_of p payload)))
  content mps h = rw (packet, front.address_type) h

  -- the reader's rows in its order: 11, 1, 2, 1, 3, 4, 5 to 8, 9, 10
  read-rows : (c : Settings) → not (settings_listed c) ≡ false → NoneHold (content_rows c.mps (type_of p) p 0)
      → NoneHold (read_rows c (bytes_of p payload))
  read-rows c s h =
      let (r5, (r6, (r7, (r8, _)))) = content c.mps h in
      rw own.type (s, (three, (own.listed, (four, (size_is, (hints, (r5, (r6, (r7, (r8, (own.routing, (own.form, tt))))))))))))

-- an answer that is no refusal has no number
write-zero : (n size size' : ℕ) → answered n size ≡ Ok size' → (n ≡ 0) × (size ≡ size')
write-zero zero size size' e = (refl, cc)
write-zero (suc n) size size' e = (cc, cc)

pub written_none : (c : Settings) (p : Packet) (n room size : ℕ) → write_packet c p n room ≡ Ok size → NoneHold (write_rows c p n room) × (size_of p ≡ size)
unfolding write_packet
written_none c p n room size e =
    let z = write-zero (first (write_rows c p n room)) (size_of p) size e in
    (first-none (write_rows c p n room) refl z.0, z.1)

pub bytes_read : (c : Settings) (p : Packet) (payload : List ℕ) (room size : ℕ) → write_packet c p (length payload) room ≡ Ok size
    → (read_packet c (bytes_of p payload) ≡ Ok p) × ((payload_of p (bytes_of p payload) ≡ payload) × (size ≡ length (bytes_of p payload)))
unfolding read_packet
bytes_read c p payload room size e =
    let z = written_none c p (length payload) room size e in
    let (s, (b, (k, (g, (r, (l, (r5, (r6, (r7, (r8, _)))))))))) = z.0 in
    let f : Fit p payload = record { common = b; own = k; reserved = g; route = r; lent = eqb-true _ _ (not-false _ l) } in
    let none = none_first (read_rows c (bytes_of p payload)) (read-rows p payload f c s (r5, (r6, (r7, (r8, tt))))) in
    let same : packet_at (type_at (byte (bytes_of p payload) 0)) (bytes_of p payload) ≡ p = rw (own p payload f).type (packet p payload f) in
    (rw none (ap Ok same), (same-payload p payload f, sym z.1 ∙ sym (packet-size p payload f)))
