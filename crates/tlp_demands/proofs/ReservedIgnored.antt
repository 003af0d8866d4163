-- Reserved bits are ignored on reading.
use Prim.Native.Nat.{ℕ, zero, suc, ◌+◌, ◌-◌}
use mathlib.Core.Path.{◌≡◌, refl}
use mathlib.Core.Bool.{Bool, true, false}
use mathlib.Core.List.{List}
use native.Mathlib.Nat.{le_refl}
use native.Mathlib.Omega.{arith}
use lib.ListN.{length, drop}
use Rattle.bits.specs.Choice.{pick}
use Rattle.bits.specs.Word.{byte, word}
use Rattle.tlp.specs.Refusals.{answered}
use Rattle.tlp.specs.PacketTypes.{type_at}
use Rattle.tlp.specs.Rows.{first}
use Rattle.tlp.specs.Packets.{access_of}
use Rattle.tlp.specs.Sizes.{length_at, digest_at, data_bytes, digest_bytes, bytes_called}
use Rattle.tlp.specs.Contents.{plain_bad, enables_bad, page_bad}
use Rattle.tlp.specs.Reserved.{masks, clear_reserved}
use Rattle.tlp.specs.declared.settings.Settings.{Settings}
use Rattle.tlp.specs.declared.packet.Packet.{Packet}
use Rattle.tlp.specs.declared.packet_type.PacketType.{PacketType}
use Rattle.tlp.specs.declared.packet_type.PacketType.TheVariants.{MRd32, MRd64, MWr32, MWr64, IORd, IOWr, CfgRd0, CfgWr0, CfgRd1, CfgWr1, Msg, MsgD, Cpl, CplD, Unlisted}
use Rattle.tlp_read.specs.Fields.{packet_at, attributes_at, digest_word, route_at, kind_at, request_at, config_at, message_at, completion_at, message_route_at}
use Rattle.tlp_read.specs.Read.{judge_rows, read_rows, read_packet, hint_or_address_type_set, routing_bad, form_bad}
use Rattle.tlp_demands.specs.RoundTrips.{ReservedIgnored}
use Rattle.tlp_demands.proofs.ReadRows.{accepted}
use Rattle.tlp_demands.proofs.ReadTypes.{masks-length}
use Rattle.tlp_demands.proofs.ReservedFields.{Cleared, cleared, drop-kept, memory-front, plain-front, data-front, bare-front, narrow-end, wide-end, config-end, message-end, completion-end}

-- what reading takes from bytes of type t is alike in s and r, the digest aside
abbrev Same : ℕ → PacketType → List ℕ → List ℕ → Type 0
Same mps t s r =
    (byte r 0 ≡ byte s 0)
    × (digest_at r ≡ digest_at s)
    × (bytes_called t r ≡ bytes_called t s)
    × (judge_rows mps t r ≡ judge_rows mps t s)
    × (digest_word r ≡ digest_word s → packet_at t r ≡ packet_at t s)

same : (mps : ℕ) (t : PacketType) {s r : List ℕ} → Cleared (masks t) s r → Same mps t s r
unfolding bytes_called data_bytes digest_at packet_at attributes_at route_at kind_at request_at config_at message_at completion_at message_route_at access_of plain_bad enables_bad page_bad hint_or_address_type_set routing_bad form_bad
same mps MRd32 u = let f = memory-front u in let g = narrow-end u in (cc, cc, cc, cc, λ d. cc)
same mps MRd64 u = let f = memory-front u in let g = wide-end u in (cc, cc, cc, cc, λ d. cc)
same mps MWr32 u = let f = memory-front u in let g = narrow-end u in (cc, cc, cc, cc, λ d. cc)
same mps MWr64 u = let f = memory-front u in let g = wide-end u in (cc, cc, cc, cc, λ d. cc)
same mps IORd u = let f = plain-front u in let g = narrow-end u in (cc, cc, cc, cc, λ d. cc)
same mps IOWr u = let f = plain-front u in let g = narrow-end u in (cc, cc, cc, cc, λ d. cc)
same mps CfgRd0 u = let f = plain-front u in let g = config-end u in (cc, cc, cc, cc, λ d. cc)
same mps CfgWr0 u = let f = plain-front u in let g = config-end u in (cc, cc, cc, cc, λ d. cc)
same mps CfgRd1 u = let f = plain-front u in let g = config-end u in (cc, cc, cc, cc, λ d. cc)
same mps CfgWr1 u = let f = plain-front u in let g = config-end u in (cc, cc, cc, cc, λ d. cc)
same mps Msg u = let f = bare-front u in let g = message-end u in (cc, cc, cc, cc, λ d. cc)
same mps MsgD u = let f = data-front u in let g = message-end u in (cc, cc, cc, cc, λ d. cc)
same mps Cpl u = let f = bare-front u in let g = completion-end u in (cc, cc, cc, cc, λ d. cc)
same mps CplD u = let f = data-front u in let g = completion-end u in (cc, cc, cc, cc, λ d. cc)
same mps Unlisted {s} {r} u = let e : r ≡ s = drop-kept u 0 (le_refl 0) in (cc, cc, cc, cc, λ d. cc)

-- the digest lies past the masks
digest-same : (td : Bool) {ms s r : List ℕ} → Cleared ms s r → (d : ℕ) → length s ≡ length ms + d + digest_bytes td
    → pick td (word 4 (drop (length r - 4) r) 0) 0 ≡ pick td (word 4 (drop (length s - 4) s) 0) 0
unfolding digest_bytes
digest-same true {ms} {s} u d e = rw (u.size, drop-kept u (length s - 4) (omega arith))
digest-same false u d e = refl

-- answers with one number are alike; the packets matter where it is 0
answers : (m n : ℕ) (p q : Packet) → m ≡ n → (n ≡ 0 → p ≡ q) → answered m p ≡ answered n q
answers m zero p q e h = let k = h refl in cc
answers m (suc n) p q e h = cc

module _ (c : Settings) (t : PacketType) (s r : List ℕ) (type : type_at (byte s 0) ≡ t) (u : Cleared (masks t) s r) where
  rows_same : first (read_rows c r) ≡ first (read_rows c s)
  rows_same =
      let a = same c.mps t u in
      rw (u.size, a.0, type, a.2, a.3)

  packet-same : first (read_rows c s) ≡ 0 → packet_at (type_at (byte r 0)) r ≡ packet_at (type_at (byte s 0)) s
  unfolding read_packet digest_word bytes_called
  packet-same e =
      let a = same c.mps t u in
      let o = rw type at (accepted c s (packet_at (type_at (byte s 0)) s) (rw e)).0 in
      rw (a.0, type) (a.4 (rw a.1 (digest-same (digest_at s) u (data_bytes t (length_at s)) (rw (masks-length s u.small t o) o.size))))

pub reserved-ignored : ReservedIgnored
unfolding read_packet clear_reserved
reserved-ignored c s small =
    let t = type_at (byte s 0) in
    let u = cleared (masks t) s small in
    answers _ _ _ _ (rows_same c t s _ refl u) (packet-same c t s _ refl u)
