-- Worked cases of the lines, computed.
use Prim.Native.String.{String}
use Rattle.std.specs.Prelude.{◌≡◌, refl, [], ◌∷◌, map, Option, Some, None}
use Rattle.text.specs.Digit.{all_digits, hex_value}
use Rattle.text.specs.Number.{value_from, plain, plainly, empty, number_in}
use Rattle.text.specs.Hex.{hex_number, pairs, bytes_spelled}
use Rattle.text.specs.Words.{word_length, word_end, begins_with, starts_with, value_at}
use Rattle.text.specs.Fields.{decimal_after, hex_after, key_after}
use Rattle.text.specs.Letters.{letters_from, letters}
use Rattle.tlp.specs.Settings.{settings_listed}
use Rattle.capture.specs.Headers.{header_line}
use Rattle.capture.specs.PacketLines.{PacketText, direction_after, front_of, packet_line}
use Rattle.capture.specs.declared.header.Header.{Header}
use Rattle.capture.specs.declared.packet_line.Direction.TheVariants.{Rx, Tx}

-- ---- line one

abbrev header_of : String → Option Header
header_of text = header_line (letters text)

-- document 01's, and the largest of each
pub headers-good : map header_of ("mps=128 mrrs=512 rcb=64 req=0100" ∷ "mps=4096 mrrs=4096 rcb=128 req=ffff" ∷ [])
    ≡ Some (record { settings = record { mps = 128; mrrs = 512; rcb = 64 }; requester = 0x0100 })
    ∷ Some (record { settings = record { mps = 4096; mrrs = 4096; rcb = 128 }; requester = 0xffff })
    ∷ []
unfolding header_line decimal_after hex_after value_at starts_with begins_with word_end word_length plainly plain number_in hex_number empty all_digits hex_value value_from settings_listed letters_from
headers-good = refl

-- Numbers: a leading zero; one that is not listed; one that 32 bits would take for 128; none. req: three digits; five;
-- a capital. Between: two spaces; a space at the end; one at the start; another order; a key twice. Nothing at all.
pub headers-bad : map header_of
    ("mps=0128 mrrs=512 rcb=64 req=0100"
    ∷ "mps=100 mrrs=512 rcb=64 req=0100"
    ∷ "mps=4294967424 mrrs=512 rcb=64 req=0100"
    ∷ "mps= mrrs=512 rcb=64 req=0100"
    ∷ "mps=128 mrrs=512 rcb=64 req=100"
    ∷ "mps=128 mrrs=512 rcb=64 req=00100"
    ∷ "mps=128 mrrs=512 rcb=64 req=0A00"
    ∷ "mps=128  mrrs=512 rcb=64 req=0100"
    ∷ "mps=128 mrrs=512 rcb=64 req=0100 "
    ∷ " mps=128 mrrs=512 rcb=64 req=0100"
    ∷ "mrrs=512 mps=128 rcb=64 req=0100"
    ∷ "mps=128 mps=128 mrrs=512 rcb=64 req=0100"
    ∷ ""
    ∷ [])
    ≡ None ∷ None ∷ None ∷ None ∷ None ∷ None ∷ None ∷ None ∷ None ∷ None ∷ None ∷ None ∷ None ∷ []
unfolding header_line decimal_after hex_after value_at starts_with begins_with word_end word_length plainly plain number_in hex_number empty all_digits hex_value value_from settings_listed letters_from
headers-bad = refl

-- ---- the lines after it

abbrev packet_of : String → Option PacketText
packet_of text = packet_line (letters text)

-- document 01's first; no bytes; the latest time
pub packets-good : map packet_of ("at=1 dir=tx len=12 tlp=000000010100050000001000" ∷ "at=0 dir=rx len=0 tlp=" ∷ "at=4294967295 dir=rx len=1 tlp=f9" ∷ [])
    ≡ Some (record { at = 1; direction = Tx; bytes = 0 ∷ 0 ∷ 0 ∷ 1 ∷ 1 ∷ 0 ∷ 5 ∷ 0 ∷ 0 ∷ 0 ∷ 16 ∷ 0 ∷ [] })
    ∷ Some (record { at = 0; direction = Rx; bytes = [] })
    ∷ Some (record { at = 4294967295; direction = Rx; bytes = 0xf9 ∷ [] })
    ∷ []
unfolding packet_line front_of direction_after decimal_after key_after value_at starts_with begins_with word_end word_length plainly plain number_in empty all_digits hex_value value_from bytes_spelled pairs letters_from
packets-good = refl

-- at: one too large; a leading zero. dir: neither of the two; longer. len: one too large; one too small; a leading
-- zero. Digits: an odd number, twice; a capital; text after them; a space after them. Between: two spaces; another
-- order; no digits' key. Nothing at all.
pub packets-bad : map packet_of
    ("at=4294967296 dir=rx len=1 tlp=f9"
    ∷ "at=01 dir=rx len=1 tlp=f9"
    ∷ "at=1 dir=up len=1 tlp=f9"
    ∷ "at=1 dir=rxx len=1 tlp=f9"
    ∷ "at=1 dir=rx len=2 tlp=f9"
    ∷ "at=1 dir=rx len=0 tlp=f9"
    ∷ "at=1 dir=rx len=01 tlp=f9"
    ∷ "at=1 dir=rx len=1 tlp=f90"
    ∷ "at=1 dir=rx len=0 tlp=f"
    ∷ "at=1 dir=rx len=1 tlp=F9"
    ∷ "at=1 dir=rx len=1 tlp=f9 at=2"
    ∷ "at=1 dir=rx len=1 tlp=f9 "
    ∷ "at=1 dir=rx  len=1 tlp=f9"
    ∷ "at=1 len=1 dir=rx tlp=f9"
    ∷ "at=1 dir=rx len=0"
    ∷ ""
    ∷ [])
    ≡ None ∷ None ∷ None ∷ None ∷ None ∷ None ∷ None ∷ None ∷ None ∷ None ∷ None ∷ None ∷ None ∷ None ∷ None ∷ None ∷ []
unfolding packet_line front_of direction_after decimal_after key_after value_at starts_with begins_with word_end word_length plainly plain number_in empty all_digits hex_value value_from bytes_spelled pairs letters_from
packets-bad = refl
