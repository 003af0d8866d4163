-- What packet_read answers: of a packet whose first most bytes are laid over the front of a space. What a reader must
-- believe: packet_read. That it is the reader's answer for the packet itself, with most at its size or above, is proved
-- in proofs/PacketReadLaws; so is that what is printed and counted is the same from printed_front on.
use Rattle.std.specs.Prelude.{ℕ, List, length, take, Option, Some, None, Result, Err}
use Rattle.bits.specs.Choice.{pick}
use Rattle.text.specs.Laid.{fits}
use Rattle.tlp.specs.declared.settings.Settings.{Settings}
use Rattle.tlp_read.specs.Read.{read_packet}
use Rattle.tlp.specs.declared.packet.Packet.{Packet}
use Rattle.tlp.specs.declared.refusal.Refusal.{Refusal}
use Rattle.tlp.specs.declared.refusal.Refusal.TheVariants.{OutputTooShort, BadLine}
use Rattle.capture.specs.PacketLines.{PacketText, packet_over}

-- the packet's bytes as they stand in the space afterwards: its first most bytes, and behind them what was lent
abbrev pub standing : ℕ → PacketText → List ℕ → List ℕ
standing most p space = take (length p.bytes) (packet_over most (Some p) space)

-- a bad line is bad whatever the room; else the output is too short where the first most bytes do not fit
abbrev pub packet_read : Settings → ℕ → Option PacketText → List ℕ → Result Packet Refusal
packet_read settings most None space = Err BadLine
packet_read settings most (Some p) space =
    pick (fits 0 (take most p.bytes) space) (read_packet settings (standing most p space)) (Err OutputTooShort)
