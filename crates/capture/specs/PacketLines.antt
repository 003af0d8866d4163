-- Document 01, Captures: "`at= dir= len= tlp=` lines"; "at is up to 4294967295; dir is rx or tx; len is the byte count,
-- from 0; hex is lower case". What a reader must believe: packet_line, or, of which Grammar says that it is the same,
-- packet_text there; then entry_answer and packet_over, what packet_line answers and leaves.
use Rattle.std.specs.Prelude.{ℕ, List, ◌==◌, length, take, drop, Option, Some, None, option_map, option_and_then, Result, Ok, Err}
use Rattle.std.specs.Option.{option_or}
use Rattle.bits.specs.Choice.{pick}
use Rattle.tlp.specs.declared.refusal.Refusal.{Refusal}
use Rattle.tlp.specs.declared.refusal.Refusal.TheVariants.{OutputTooShort, BadLine}
use Rattle.text.specs.Laid.{fits, laid}
use Rattle.text.specs.Hex.{bytes_spelled}
use Rattle.text.specs.Fields.{decimal_after, key_after}
use Rattle.text.specs.declared.fields.Field.{Field}
use Rattle.capture.specs.Keys.{at_key, rx_key, tx_key, length_key, packet_key}
use Rattle.capture.specs.Headers.{most32}
use Rattle.capture.specs.declared.packet_line.Direction.{Direction}
use Rattle.capture.specs.declared.packet_line.Direction.TheVariants.{Rx, Tx}
use Rattle.capture.specs.declared.packet_line.Entry.{Entry}
use Rattle.capture.specs.declared.packet_line.Front.{Front}

-- the direction whose key stands from index at on, rx or tx, and the index after it
unfoldable pub direction_after : List ℕ → ℕ → Option (Direction × ℕ)
direction_after text at =
    option_or (option_map (λ (next : ℕ). (Rx, next)) (key_after text at rx_key))
    (option_map (λ (next : ℕ). (Tx, next)) (key_after text at tx_key))

-- what follows each field; the packet's digits run to the end of the line
abbrev pub after_length : List ℕ → Field → Direction × ℕ → Field → Option Front
after_length text at way size =
    option_map (λ (digits : ℕ). record { at = at.value; direction = way.0; size = size.value; digits = digits })
    (key_after text size.next packet_key)

abbrev pub after_direction : List ℕ → Field → Direction × ℕ → Option Front
after_direction text at way = option_and_then (after_length text at way) (decimal_after text way.1 length_key most32)

abbrev pub after_at : List ℕ → Field → Option Front
after_at text at = option_and_then (after_direction text at) (direction_after text at.next)

unfoldable pub front_of : List ℕ → Option Front
front_of text = option_and_then (after_at text) (decimal_after text 0 at_key most32)

-- what a packet line says
pub record PacketText : Type 0 where
  pub at : ℕ
  pub direction : Direction
  pub bytes : List ℕ

-- "len is the byte count"
abbrev pub counted : Front → List ℕ → Option PacketText
counted f bytes =
    pick (length bytes == f.size) (Some (record { at = f.at; direction = f.direction; bytes = bytes })) None

abbrev pub text_of : List ℕ → Front → Option PacketText
text_of text f = option_and_then (counted f) (bytes_spelled (drop f.digits text))

unfoldable pub packet_line : List ℕ → Option PacketText
packet_line text = option_and_then (text_of text) (front_of text)

-- a bad line is bad whatever the room; else the output is too short where the packet's first most bytes do not fit; the
-- size is of all its bytes
abbrev pub entry_answer : ℕ → Option PacketText → List ℕ → Result Entry Refusal
entry_answer most None out = Err BadLine
entry_answer most (Some p) out =
    pick (fits 0 (take most p.bytes) out)
    (Ok (record { at = p.at; direction = p.direction; size = length p.bytes }))
    (Err OutputTooShort)

-- the packet's first most bytes over the front of an output, which stays as it was with another answer
abbrev pub packet_over : ℕ → Option PacketText → List ℕ → List ℕ
packet_over most None out = out
packet_over most (Some p) out = laid 0 (take most p.bytes) out
