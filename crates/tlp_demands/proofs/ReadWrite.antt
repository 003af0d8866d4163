-- A packet that was read is written as its bytes with reserved bits cleared.
use Prim.Native.Nat.{ℕ, ◌+◌, ◌-◌, ◌*◌, ◌≤◌}
use mathlib.Core.Path.{◌≡◌, refl, sym, ◌∙◌}
use mathlib.Core.Bool.{Bool, true, false, ◌||◌, ◌&&◌, not}
use mathlib.Core.List.{List, [], ◌∷◌, ◌++◌, append-nil}
use native.Mathlib.Omega.{arith}
use lib.Dec.{eqb, ltb}
use lib.ListN.{length, take, drop, length-drop, take-append-drop}
use lib.Seq.{take_all, drop-drop, length-take-le}
use borrow.Author.Tests.{eq-eqb, le-ltb}
use Rattle.bits.specs.Choice.{pick}
use Rattle.bits.specs.Field.{low}
use Rattle.bits.specs.Word.{byte, word, bytes, Bytes}
use Rattle.bits.proofs.WordLaws.{bytes_word, bytes_drop}
use Rattle.byte_enables.specs.declared.Access.{Access}
use Rattle.std.specs.Prelude.{Ok}
use Rattle.tlp.specs.PacketTypes.{type_at, header_dw, family_of, is_io_or_config}
use Rattle.tlp.specs.Rows.{row, NoneHold}
use Rattle.tlp.specs.Packets.{access_of}
use Rattle.tlp.specs.Sizes.{length_at, digest_at, data_bytes, digest_bytes, bytes_called}
use Rattle.tlp.specs.Contents.{content_rows, plain_bad, not_plain}
use Rattle.tlp.specs.Reserved.{masks, clear_reserved}
use Rattle.tlp.specs.declared.settings.Settings.{Settings}
use Rattle.tlp.specs.declared.packet.Packet.{Packet}
use Rattle.tlp.specs.declared.packet_type.PacketType.{PacketType}
use Rattle.tlp.specs.declared.packet_type.Family.{Family}
use Rattle.tlp_read.specs.Fields.{packet_at, digest_word}
use Rattle.tlp_read.specs.Read.{read_packet, payload_of}
use Rattle.tlp_write.specs.Layout.{digest_of, bytes_of, size_of}
use Rattle.tlp_write.specs.Write.{write_rows, write_packet}
use Rattle.tlp_writable.specs.Given.{given_rows}
use Rattle.tlp.proofs.RowLaws.{none_first, none-join}
use Rattle.tlp_demands.proofs.ReadRows.{Sound, accepted}
use Rattle.tlp_demands.proofs.ReadMasks.{masked-under}
use Rattle.tlp_demands.proofs.ReadTypes.{same-type, same-data, masks-length}
use Rattle.tlp_demands.proofs.ReadHeader.{header}
use Rattle.tlp_demands.proofs.ReadGiven.{given-none}

-- ---- data and digest

-- what follows the header: data, and the digest where there is one
tail-back : (td : Bool) (s : List ℕ) (h d : ℕ) → Bytes s → length s ≡ h + d + digest_bytes td
    → take d (drop h s) ++ pick td (bytes 4 (pick td (word 4 (drop (length s - 4) s) 0) 0)) [] ≡ drop h s
unfolding digest_bytes
tail-back true s h d small e =
    let m : length s - 4 ≡ h + d = omega arith in
    let n : length (drop (h + d) s) ≡ 4 = simp length-drop (omega arith) in
    rw (m, bytes_word 4 (drop (h + d) s) (omega arith) (λ i l. bytes_drop s small (h + d) i), take_all 4 (drop (h + d) s) (omega arith), ← drop-drop d h s)
    (take-append-drop d (drop h s))
tail-back false s h d small e = append-nil _ ∙ take_all d (drop h s) (simp length-drop (omega arith))

-- ---- AT is written 0

zero-last : (io x y z w : Bool) → io && (x || (y || (z || w))) ≡ false → io && (x || (y || (z || false))) ≡ false
zero-last false x y z w e = refl
zero-last true true y z w e = e
zero-last true false true z w e = e
zero-last true false false true w e = e
zero-last true false false false w e = refl

at_zero : (f : Family) (a : Access) (tc attr at : ℕ) → plain_bad f a tc attr at ≡ false → plain_bad f a tc attr 0 ≡ false
unfolding plain_bad not_plain
at_zero f a tc attr at e = zero-last (is_io_or_config f) (not (eqb a.length 1)) (not (eqb tc 0)) (not (eqb (low attr 2) 0)) (not (eqb at 0)) e

module _ (c : Settings) (s : List ℕ) (small : Bytes s) (t : PacketType) (o : Sound c t s) where
  content-none : NoneHold (content_rows c.mps t (packet_at t s) 0)
  content-none =
      let k = o.content in
      (k.0, (at_zero (family_of t) _ _ _ _ k.1.0, k.1.1))

  size_is : size_of (packet_at t s) ≡ length s
  unfolding size_of packet_at bytes_called
  size_is = rw (same-type s small t o, same-data s small t o) (sym o.size)

  payload-is : payload_of (packet_at t s) s ≡ take (data_bytes t (length_at s)) (drop (4 * header_dw t) s)
  unfolding payload_of
  payload-is = rw (same-type s small t o, same-data s small t o)

  payload-length : length (payload_of (packet_at t s) s) ≡ data_bytes t (access_of (packet_at t s)).length
  unfolding bytes_called
  payload-length = rw (payload-is, same-data s small t o) (length-take-le _ _ (simp length-drop (omega (arith, o.size))))

  tail-is : payload_of (packet_at t s) s ++ digest_of (packet_at t s) ≡ drop (4 * header_dw t) s
  unfolding digest_of packet_at digest_word bytes_called
  tail-is = rw payload-is (tail-back (digest_at s) s (4 * header_dw t) (data_bytes t (length_at s)) small o.size)

  same_bytes : bytes_of (packet_at t s) (payload_of (packet_at t s) s) ≡ clear_reserved s
  unfolding bytes_of clear_reserved bytes_called
  same_bytes =
      let n = masks-length s small t o in
      rw (header s small t o, tail-is, o.type, masked-under (masks t) s (omega (arith, o.size)), n)

  write-none : (room : ℕ) → length s ≤ room → NoneHold (write_rows c (packet_at t s) (length (payload_of (packet_at t s) s)) room)
  write-none room h =
      let p = packet_at t s in
      let n = data_bytes t (access_of p).length in
      let content = content_rows c.mps t p 0 in
      let last = row 12 (ltb room (length s)) ∷ [] in
      rw (size_is, payload-length, same-type s small t o) (
        o.settings,
        none-join (given_rows p) (row 3 (not (eqb n n)) ∷ (content ++ last)) (given-none s small t o)
            (rw (eq-eqb n n refl), none-join content last content-none (le-ltb room (length s) h, tt)),
      )

  same_answer : (room : ℕ) → length s ≤ room → write_packet c (packet_at t s) (length (payload_of (packet_at t s) s)) room ≡ Ok (length s)
  unfolding write_packet
  same_answer room h = rw (none_first (write_rows c (packet_at t s) (length (payload_of (packet_at t s) s)) room) (write-none room h), size_is)

pub read-written : (c : Settings) (s : List ℕ) (p : Packet) (room : ℕ) → Bytes s → read_packet c s ≡ Ok p → length s ≤ room
    → (write_packet c p (length (payload_of p s)) room ≡ Ok (length s)) × (bytes_of p (payload_of p s) ≡ clear_reserved s)
read-written c s p room small e h =
    let a = accepted c s p e in
    rw (← a.1) (same_answer c s small (type_at (byte s 0)) a.0 room h, same_bytes c s small (type_at (byte s 0)) a.0)
