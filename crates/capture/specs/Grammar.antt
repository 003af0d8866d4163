-- The lines of a capture as text, without parsing: a line is good exactly when it is the text of its values. What a
-- reader must believe: header_text and packet_text; that header_line and packet_line say the same are the theorems
-- HeaderExact and PacketExact, proved in proofs/Grammar.
use Rattle.std.specs.Prelude.{ℕ, ◌^◌, ◌≤◌, ◌<◌, ◌≡◌, refl, true, ◌↔◌, List, [], ◌∷◌, ◌++◌, length, get_or, Some}
use Rattle.text.specs.Digit.{hex_digit}
use Rattle.text.specs.Number.{digits, count_to}
use Rattle.text.specs.Decimal.{decimal_text}
use Rattle.text.specs.Hex.{hex_text}
use Rattle.text.specs.Letters.{letters_from, letters}
use Rattle.tlp.specs.Settings.{settings_listed}
use Rattle.capture.specs.Keys.{mps_key, mrrs_key, rcb_key, requester_key, at_key, rx_key, tx_key, length_key, packet_key}
use Rattle.capture.specs.Headers.{most32, header_line}
use Rattle.capture.specs.PacketLines.{PacketText, packet_line}
use Rattle.capture.specs.declared.header.Header.{Header}
use Rattle.capture.specs.declared.packet_line.Direction.{Direction}
use Rattle.capture.specs.declared.packet_line.Direction.TheVariants.{Rx, Tx}

-- ---- line one

-- "`mps= mrrs= rcb= req=`", "each key once, one space between": every key but the first begins with its space.
-- "Decimals have no leading zeros"; "hex is lower case, req four digits".
abbrev pub header_text : Header → List ℕ
header_text h =
    mps_key ++ decimal_text h.settings.mps
    ++ mrrs_key ++ decimal_text h.settings.mrrs
    ++ rcb_key ++ decimal_text h.settings.rcb
    ++ requester_key ++ digits 16 4 h.requester

-- "MPS and MRRS each one of 128, 256, 512, 1024, 2048, 4096; RCB 64 or 128"
abbrev pub HeaderExact : Type 0
HeaderExact = (text : List ℕ) (h : Header)
    → (header_line text ≡ Some h) ↔ ((settings_listed h.settings ≡ true) × (h.requester < 2 ^ 16) × (text ≡ header_text h))

-- ---- the lines after it

-- "dir is rx or tx"
abbrev pub direction_key : Direction → List ℕ
direction_key Rx = rx_key
direction_key Tx = tx_key

-- "`at= dir= len= tlp=`"; "len is the byte count, from 0"
abbrev pub packet_text : PacketText → List ℕ
packet_text p =
    at_key ++ decimal_text p.at
    ++ direction_key p.direction
    ++ length_key ++ decimal_text (length p.bytes)
    ++ packet_key ++ hex_text p.bytes

abbrev pub EachByte : List ℕ → Type 0
EachByte bytes = (i : ℕ) → i < length bytes → get_or bytes i 0 < 256

-- "at is up to 4294967295"; len has the same bound
abbrev pub PacketExact : Type 0
PacketExact = (text : List ℕ) (p : PacketText)
    → (packet_line text ≡ Some p)
    ↔ ((p.at ≤ most32) × EachByte p.bytes × (length p.bytes ≤ most32) × (text ≡ packet_text p))

-- ---- document 01's case

pub header-shown : header_text (record { settings = record { mps = 128; mrrs = 512; rcb = 64 }; requester = 0x0100 })
    ≡ letters "mps=128 mrrs=512 rcb=64 req=0100"
unfolding digits count_to hex_digit letters_from
header-shown = refl

pub packet-shown : packet_text (record { at = 4; direction = Rx; bytes = 0 ∷ 0 ∷ 0 ∷ 1 ∷ [] })
    ≡ letters "at=4 dir=rx len=4 tlp=00000001"
unfolding digits count_to hex_digit hex_text letters_from
packet-shown = refl
