-- The part of the bytes that holds a packet's data, its ends brought within the bytes.
use Prim.Native.Nat.{ℕ, ◌+◌, ◌-◌, ◌*◌, min}
use native.Mathlib.Omega.{arith}
use mathlib.Core.Path.{◌≡◌, sym, ◌∙◌}
use mathlib.Core.Logic.{⊎_elim}
use mathlib.Core.List.{List}
use native.Mathlib.Nat.{eq-zero-or-pos}
use lib.ListN.{length, take, drop, length-drop, drop_of_length-le}
use lib.Seq.{take_all}
use Rattle.byte_enables.specs.declared.Access.{Access}
use Rattle.tlp.specs.PacketTypes.{header_dw}
use Rattle.tlp.specs.Packets.{type_of, access_of}
use Rattle.tlp.specs.Sizes.{data_bytes}
use Rattle.tlp.specs.declared.packet.Packet.{Packet}
use Rattle.tlp.specs.declared.packet_type.PacketType.{PacketType}
use Rattle.tlp_read.specs.Read.{payload_of}

-- taking more than there is takes all
take_min : (n k : ℕ) (l : List ℕ) → length l ≡ k → take (min n k) l ≡ take n l
take_min n k l e =
    ⊎_elim (λ h. let m : min n k ≡ n = omega arith in rw m)
    (λ h. take_all (min n k) l (omega arith) ∙ sym (take_all n l (omega arith)))
    (eq-zero-or-pos (n - k))

-- dropping more than there is drops all
drop_min : (n : ℕ) (l : List ℕ) → drop (min n (length l)) l ≡ drop n l
drop_min n l =
    ⊎_elim (λ h. let m : min n (length l) ≡ n = omega arith in rw m)
    (λ h. drop_of_length-le l {i = min n (length l)} (omega arith) ∙ sym (drop_of_length-le l {i = n} (omega arith)))
    (eq-zero-or-pos (n - length l))

pub payload-law : (p : Packet) (bytes : List ℕ) (t : PacketType) (a : Access) (h b e d : ℕ)
    → t ≡ type_of p → a ≡ access_of p → h ≡ header_dw t → b ≡ min (4 * h) (length bytes) → d ≡ data_bytes t a.length → e ≡ min d (length bytes - b)
    → take ((b + e) - b) (drop b bytes) ≡ payload_of p bytes
unfolding payload_of
payload-law p bytes t a h b e d et ea eh eb ed ee =
    let n : (b + e) - b ≡ e = omega arith in
    rw (n, ee, take_min d (length bytes - b) (drop b bytes) (length-drop b bytes), eb, drop_min (4 * h) bytes, ← et, ← ea, eh, ed)
