-- Document 01, "Numbers for the packet desk, in order of checking", and what reading answers. All to be believed.
use Rattle.std.specs.Prelude.{ℕ, ◌*◌, Bool, ◌||◌, ◌&&◌, not, List, [], ◌∷◌, ◌++◌, eqb, ltb, length, take, drop, Result}
use Rattle.bits.specs.Word.{word}
use Rattle.tlp.specs.Rows.{Row, row, first}
use Rattle.tlp.specs.Settings.{settings_listed}
use Rattle.tlp.specs.PacketTypes.{packet_type_at, header_dw, family_of, is_memory, is_message}
use Rattle.tlp.specs.Packets.{type_of, access_of}
use Rattle.tlp.specs.Sizes.{bytes_called, size_rows, data_bytes}
use Rattle.tlp.specs.Contents.{content_rows}
use Rattle.tlp.specs.declared.settings.Settings.{Settings}
use Rattle.tlp.specs.declared.packet.Packet.{Packet}
use Rattle.tlp.specs.declared.packet_type.PacketType.{PacketType}
use Rattle.tlp.specs.declared.refusal.Refusal.{Refusal}
use Rattle.tlp.specs.Refusals.{answered}
use Rattle.tlp_read.specs.Fields.{hint_at, address_type_at, routing_at, packet_at}

-- row 4: "memory request with TH set or AT not 0"
unfoldable pub hint_or_address_type_set : PacketType → List ℕ → Bool
hint_or_address_type_set t bytes = is_memory (family_of t) && (hint_at bytes || not (eqb (address_type_at bytes) 0))

-- row 9: "message routing 110 or 111"
unfoldable pub routing_bad : PacketType → List ℕ → Bool
routing_bad t bytes = is_message (family_of t) && ltb 5 (routing_at bytes)

-- row 10: "MRd64 or MWr64 with the top 32 address bits 0"
unfoldable pub form_bad : PacketType → List ℕ → Bool
form_bad t bytes = is_memory (family_of t) && (eqb (header_dw t) 4 && eqb (word 4 bytes 8) 0)

-- rows 4 to 10, of bytes of type t
abbrev pub judge_rows : ℕ → PacketType → List ℕ → List Row
judge_rows mps t bytes =
    row 4 (hint_or_address_type_set t bytes)
    ∷ (content_rows mps t (packet_at t bytes) (address_type_at bytes)
    ++ (row 9 (routing_bad t bytes)
    ∷ row 10 (form_bad t bytes)
    ∷ []))

-- the table, row for row: 11, 1, 2, 1, 3, then 4 to 10
abbrev pub read_rows : Settings → List ℕ → List Row
read_rows settings bytes =
    row 11 (not (settings_listed settings))
    ∷ (size_rows bytes
    ++ (row 3 (not (eqb (length bytes) (bytes_called (packet_type_at bytes) bytes)))
    ∷ judge_rows settings.mps (packet_type_at bytes) bytes))

-- what reading bytes gives: the number of the first row that holds, else the packet
unfoldable pub read_packet : Settings → List ℕ → Result Packet Refusal
read_packet settings bytes = answered (first (read_rows settings bytes)) (packet_at (packet_type_at bytes) bytes)

-- the data of a packet in the bytes that hold it: what follows the header, as far as there is any
unfoldable pub payload_of : Packet → List ℕ → List ℕ
payload_of p bytes = take (data_bytes (type_of p) (access_of p).length) (drop (4 * header_dw (type_of p)) bytes)

-- the packet that stands in bytes, and its data
abbrev pub packet_in : List ℕ → Packet
packet_in bytes = packet_at (packet_type_at bytes) bytes

abbrev pub payload_in : List ℕ → List ℕ
payload_in bytes = payload_of (packet_in bytes) bytes
