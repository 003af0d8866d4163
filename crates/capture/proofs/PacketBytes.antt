-- How long a packet line is: it has its four keys, and two digits for each byte of its packet.
use Rattle.std.proofs.Common.{◌≡◌, ℕ, ◌*◌, ◌%◌, ◌≤◌, ◌&&◌, eqb, List, length, drop, length-drop, arith, Some}
use Rattle.text.specs.Digit.{all_digits}
use Rattle.text.specs.Hex.{pairs, bytes_spelled}
use Rattle.text.proofs.Bounds.{picked}
use Rattle.text.proofs.HexLaws.{length_pairs}
use Rattle.text.proofs.FieldPlaces.{decimal-placed, key-placed}
use Rattle.capture.specs.Keys.{at_key, length_key, packet_key}
use Rattle.capture.specs.Headers.{most32}
use Rattle.capture.specs.PacketLines.{PacketText, packet_line}
use Rattle.capture.proofs.LineParts.{LineParts, line-parts, FrontParts, front-parts, direction-is}

spelled-within : (digits bytes : List ℕ) → bytes_spelled digits ≡ Some bytes → 2 * length bytes ≤ length digits
unfolding bytes_spelled
spelled-within digits bytes e =
    let f = picked (eqb (length digits % 2) 0 && all_digits 16 digits) (Some (pairs digits)) bytes e in
    let z : pairs digits ≡ bytes = cc f.1 in
    rw (← z) (omega (arith, length_pairs digits))

pub packet-bytes : (text : List ℕ) (p : PacketText) → packet_line text ≡ Some p → 2 * length p.bytes ≤ length text
packet-bytes text p e =
    let l : LineParts text p = line-parts text p e in
    omega (arith, spelled-within (drop l.f.digits text) p.bytes l.bytes, length-drop l.f.digits text)

pub packet-least : (text : List ℕ) (p : PacketText) → packet_line text ≡ Some p → 20 ≤ length text
packet-least text p e =
    let l : LineParts text p = line-parts text p e in
    let f : FrontParts text l.f = front-parts text l.f l.front in
    let at = decimal-placed text at_key 0 most32 f.at f.at_is in
    let way = direction-is text f.at.next f.way f.way_is in
    let size = decimal-placed text length_key f.way.1 most32 f.size f.size_is in
    let digits = key-placed text packet_key f.size.next l.f.digits f.digits_is in
    omega (arith, at.0, way.1, size.0, digits.0, digits.1)
