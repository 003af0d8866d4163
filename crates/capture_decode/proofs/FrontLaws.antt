-- What is printed for a packet depends on its size and its first 16 bytes alone: all else that reading takes is the digest, which is not printed.
use Prim.Native.Nat.{ℕ, zero, suc, ◌+◌, ◌<◌, ◌≤◌}
use mathlib.Core.Path.{◌≡◌, refl, sym, ◌∙◌}
use mathlib.Core.List.{List}
use native.Mathlib.Omega.{arith}
use lib.ListN.{length, take}
use lib.Seq.{get_or-take}
use Rattle.bits.specs.Word.{byte, word}
use Rattle.tlp.specs.Rows.{first}
use Rattle.tlp.specs.Refusals.{answered}
use Rattle.tlp.specs.PacketTypes.{type_at}
use Rattle.tlp.specs.Packets.{type_of, access_of}
use Rattle.tlp.specs.Sizes.{length_at, digest_at, bytes_called}
use Rattle.tlp.specs.declared.settings.Settings.{Settings}
use Rattle.tlp.specs.declared.packet.Packet.{Packet}
use Rattle.tlp.specs.declared.packet_type.PacketType.{PacketType}
use Rattle.tlp.specs.declared.packet_type.PacketType.TheVariants.{MRd32, MRd64, MWr32, MWr64, IORd, IOWr, CfgRd0, CfgWr0, CfgRd1, CfgWr1, Msg, MsgD, Cpl, CplD, Unlisted}
use Rattle.tlp_read.specs.Fields.{packet_at, attributes_at, request_at, config_at, message_at, completion_at, message_route_at, route_at, kind_at}
use Rattle.tlp_read.specs.Read.{judge_rows, read_rows, read_packet, hint_or_address_type_set, routing_bad, form_bad}
use Rattle.capture_print.specs.Outputs.{packet_output, output_line}
use Rattle.capture_decode.specs.Decode.{refused_count}
use Rattle.capture_decode.specs.Printed.{printed_front}

module _ (packet laid : List ℕ) (taken : take printed_front laid ≡ take printed_front packet) where
  byte-front : (i : ℕ) → i < printed_front → byte laid i ≡ byte packet i
  byte-front i h = sym (get_or-take printed_front laid i 0 h) ∙ rw taken (get_or-take printed_front packet i 0 h)

  word-front : (k i : ℕ) → k + i ≤ printed_front → word k laid i ≡ word k packet i
  word-front zero i h = refl
  word-front (suc k) i h = rw (byte-front i (omega arith), word-front k (i + 1) (omega arith))

  -- ---- the parts of a packet

  length_front : length_at laid ≡ length_at packet
  unfolding length_at
  length_front = rw (byte-front 2 (omega arith), byte-front 3 (omega arith))

  digest-front : digest_at laid ≡ digest_at packet
  unfolding digest_at
  digest-front = rw (byte-front 2 (omega arith))

  called-front : (t : PacketType) → bytes_called t laid ≡ bytes_called t packet
  unfolding bytes_called
  called-front t = rw (length_front, digest-front)

  attributes-front : (t : PacketType) → attributes_at t laid ≡ attributes_at t packet
  unfolding attributes_at
  attributes-front t = rw (byte-front 1 (omega arith), byte-front 2 (omega arith))

  request-front : request_at laid ≡ request_at packet
  unfolding request_at
  request-front = rw (word-front 2 4 (omega arith), byte-front 6 (omega arith), byte-front 7 (omega arith), length_front)

  config-front : config_at laid ≡ config_at packet
  unfolding config_at
  config-front = rw (request-front, byte-front 10 (omega arith), byte-front 11 (omega arith))

  message-front : message_at laid ≡ message_at packet
  unfolding message_at
  message-front = rw (word-front 2 4 (omega arith), byte-front 6 (omega arith), byte-front 7 (omega arith), word-front 8 8 (omega arith))

  completion-front : completion_at laid ≡ completion_at packet
  unfolding completion_at
  completion-front = rw (word-front 2 4 (omega arith), byte-front 6 (omega arith), byte-front 7 (omega arith), byte-front 10 (omega arith), byte-front 11 (omega arith))

  message-route-front : message_route_at laid ≡ message_route_at packet
  unfolding message_route_at
  message-route-front = rw (byte-front 0 (omega arith), word-front 8 8 (omega arith), word-front 2 8 (omega arith))

  route-front : (t : PacketType) → route_at t laid ≡ route_at t packet
  unfolding route_at
  route-front MRd32 = rw (word-front 4 8 (omega arith))
  route-front MRd64 = rw (word-front 8 8 (omega arith))
  route-front MWr32 = rw (word-front 4 8 (omega arith))
  route-front MWr64 = rw (word-front 8 8 (omega arith))
  route-front IORd = rw (word-front 4 8 (omega arith))
  route-front IOWr = rw (word-front 4 8 (omega arith))
  route-front CfgRd0 = rw (word-front 2 8 (omega arith))
  route-front CfgWr0 = rw (word-front 2 8 (omega arith))
  route-front CfgRd1 = rw (word-front 2 8 (omega arith))
  route-front CfgWr1 = rw (word-front 2 8 (omega arith))
  route-front Msg = message-route-front
  route-front MsgD = message-route-front
  route-front Cpl = rw (word-front 2 8 (omega arith))
  route-front CplD = rw (word-front 2 8 (omega arith))
  route-front Unlisted = refl

  kind-front : (t : PacketType) → kind_at t laid ≡ kind_at t packet
  unfolding kind_at
  kind-front MRd32 = rw request-front
  kind-front MRd64 = rw request-front
  kind-front MWr32 = rw request-front
  kind-front MWr64 = rw request-front
  kind-front IORd = rw request-front
  kind-front IOWr = rw request-front
  kind-front CfgRd0 = rw config-front
  kind-front CfgWr0 = rw config-front
  kind-front CfgRd1 = rw config-front
  kind-front CfgWr1 = rw config-front
  kind-front Msg = rw message-front
  kind-front MsgD = rw (message-front, length_front)
  kind-front Cpl = rw completion-front
  kind-front CplD = rw (completion-front, length_front)
  kind-front Unlisted = rw completion-front

  -- ---- the rows, and what is printed

  judge-front : (mps : ℕ) (t : PacketType) → judge_rows mps t laid ≡ judge_rows mps t packet
  unfolding packet_at access_of hint_or_address_type_set routing_bad form_bad
  judge-front mps t =
      rw (byte-front 0 (omega arith), byte-front 1 (omega arith), byte-front 2 (omega arith), word-front 4 8 (omega arith), attributes-front t, route-front t, kind-front t)

  rows-front : (c : Settings) → length laid ≡ length packet → first (read_rows c laid) ≡ first (read_rows c packet)
  rows-front c size =
      let t = type_at (byte packet 0) in
      rw (size, byte-front 0 (omega arith), called-front t, judge-front c.mps t)

  packet-front : (t : PacketType) → packet_output (packet_at t laid) ≡ packet_output (packet_at t packet)
  unfolding packet_output packet_at type_of access_of
  packet-front t = rw (route-front t, kind-front t)

-- answers with one number print alike where their packets do
answers-output : (m n : ℕ) (p q : Packet) → m ≡ n → packet_output p ≡ packet_output q → output_line (answered m p) ≡ output_line (answered n q)
unfolding output_line
answers-output m zero p q e h = rw e h
answers-output m (suc n) p q e h = rw e

answers-refused : (m n : ℕ) (p q : Packet) → m ≡ n → refused_count (answered m p) ≡ refused_count (answered n q)
answers-refused m zero p q e = rw e
answers-refused m (suc n) p q e = rw e

pub front-output : (c : Settings) (packet laid : List ℕ) → length laid ≡ length packet → take printed_front laid ≡ take printed_front packet → output_line (read_packet c laid) ≡ output_line (read_packet c packet)
unfolding read_packet
front-output c packet laid size taken =
    answers-output _ _ _ _ (rows-front packet laid taken c size) (rw (byte-front packet laid taken 0 (omega arith)) (packet-front packet laid taken (type_at (byte packet 0))))

pub front-refused : (c : Settings) (packet laid : List ℕ) → length laid ≡ length packet → take printed_front laid ≡ take printed_front packet → refused_count (read_packet c laid) ≡ refused_count (read_packet c packet)
unfolding read_packet
front-refused c packet laid size taken = answers-refused _ _ _ _ (rows-front packet laid taken c size)
