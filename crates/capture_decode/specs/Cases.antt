-- Document 01's whole case and others, computed.
use Rattle.std.specs.Prelude.{ℕ, ◌≡◌, refl, List, [], ◌∷◌, ◌++◌, map}
use Prim.Native.String.{String}
use Rattle.byte_enables.specs.Enables.{enables_allowed}
use Rattle.text.specs.Digit.{all_digits, hex_value, hex_digit}
use Rattle.text.specs.Number.{value_from, plain, plainly, empty, number_in, digits, count_to}
use Rattle.text.specs.Hex.{hex_number, pairs, bytes_spelled}
use Rattle.text.specs.Words.{word_length, word_end, begins_with, starts_with, value_at}
use Rattle.text.specs.Fields.{decimal_after, hex_after, key_after}
use Rattle.tlp.specs.Rows.{first}
use Rattle.tlp.specs.Refusals.{refusal}
use Rattle.tlp.specs.Settings.{settings_listed}
use Rattle.tlp.specs.PacketTypes.{type_at}
use Rattle.tlp.specs.Packets.{type_of, access_of}
use Rattle.tlp.specs.Sizes.{or_most, length_at, digest_at, data_bytes, digest_bytes, bytes_called}
use Rattle.tlp.specs.Contents.{not_plain, plain_bad, enables_bad, page_bad}
use Rattle.tlp_read.specs.Fields.{attributes_at, digest_word, request_at, config_at, message_at, completion_at, implicit_at, message_route_at, route_at, kind_at, packet_at}
use Rattle.tlp_read.specs.Read.{hint_or_address_type_set, routing_bad, form_bad, read_packet}
use Rattle.capture_print.specs.Words.{newline}
use Rattle.text.specs.Letters.{letters_from, letters}
use Rattle.capture_lines.specs.Lines.{complete_lines, line_with, unended, tail_with, over_long}
use Rattle.capture.specs.Headers.{header_line}
use Rattle.capture.specs.PacketLines.{direction_after, front_of, packet_line}
use Rattle.capture_print.specs.Outputs.{code_line, packet_output, output_line, totals_line}
use Rattle.capture_decode.specs.Decode.{header_read, line_read, tail_decoded, lines_decoded, text_decoded, decode_text}

-- lines, each ended by a newline
abbrev ended : List String → List ℕ
ended [] = []
ended (text ∷ texts) = letters text ++ (newline ++ ended texts)

abbrev header : String
header = "mps=128 mrrs=512 rcb=64 req=0100"

-- Document 01's whole case. Then: a header alone; an empty line; no bytes; a last line without newline; nothing at all;
-- a first line without newline; a bad first line.
pub inputs-decoded : map decode_text
    (ended
    (header
    ∷ "at=1 dir=tx len=12 tlp=000000010100050000001000"
    ∷ "at=2 dir=rx len=16 tlp=4a000001020000010100050000000000"
    ∷ "at=3 dir=rx len=12 tlp=000000020100050000001000"
    ∷ "at=4 dir=rx len=4 tlp=00000001"
    ∷ [])
    ∷ ended (header ∷ [])
    ∷ ended (header ∷ "" ∷ [])
    ∷ ended (header ∷ "at=1 dir=tx len=0 tlp=" ∷ [])
    ∷ (ended (header ∷ []) ++ letters "at=1 dir=tx len=0 tlp=")
    ∷ []
    ∷ letters header
    ∷ ended ("mps=100 mrrs=512 rcb=64 req=0100" ∷ "at=1 dir=tx len=0 tlp=" ∷ [])
    ∷ [])
    ≡ ended ("code=0 kind=MRd32 tag=5 dw=1" ∷ "code=0 kind=CplD tag=5 dw=1" ∷ "code=7" ∷ "code=1" ∷ "lines=4 refused=2" ∷ [])
    ∷ ended ("lines=0 refused=0" ∷ [])
    ∷ ended ("code=13" ∷ "lines=1 refused=1" ∷ [])
    ∷ ended ("code=1" ∷ "lines=1 refused=1" ∷ [])
    ∷ ended ("code=13" ∷ "lines=1 refused=1" ∷ [])
    ∷ ended ("code=11" ∷ [])
    ∷ ended ("code=11" ∷ [])
    ∷ ended ("code=11" ∷ [])
    ∷ []
unfolding decode_text text_decoded header_read lines_decoded tail_decoded line_read complete_lines line_with unended tail_with over_long code_line packet_output output_line totals_line header_line packet_line front_of direction_after decimal_after hex_after key_after value_at starts_with begins_with word_end word_length plainly plain number_in hex_number empty all_digits hex_value value_from bytes_spelled pairs digits count_to hex_digit settings_listed read_packet first refusal type_at type_of access_of enables_allowed or_most length_at digest_at data_bytes digest_bytes bytes_called not_plain plain_bad enables_bad page_bad attributes_at digest_word request_at config_at message_at completion_at implicit_at message_route_at route_at kind_at packet_at hint_or_address_type_set routing_bad form_bad letters_from
inputs-decoded = refl
