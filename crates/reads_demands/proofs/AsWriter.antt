-- The writer's rows for a memory read without a payload, against open's.
use Prim.Native.Nat.{ℕ, ◌^◌, ◌<◌, zero-le}
use mathlib.Core.Path.{◌≡◌, refl, ◌∙◌}
use mathlib.Core.Bool.{Bool, true, false}
use mathlib.Core.List.{List, [], ◌∷◌, ◌++◌}
use lib.Dec.{eqb, ltb}
use borrow.Author.Tests.{le-ltb, lt-leb}
use Rattle.bits.specs.Choice.{pick}
use Rattle.tlp.specs.Rows.{Row, row, first}
use Rattle.tlp.specs.Packets.{type_of, access_of}
use Rattle.tlp.specs.Contents.{plain_bad, enables_bad, page_bad}
use Rattle.tlp.specs.declared.settings.Settings.{Settings}
use Rattle.tlp.specs.declared.packet.Packet.{Packet}
use Rattle.tlp.specs.declared.packet_type.Family.TheVariants.{Memory}
use Rattle.tlp_writable.specs.Given.{common_bad, request_bad, own_bad, reserved_given, route_bad, given_rows}
use Rattle.tlp_write.specs.Layout.{size_of}
use Rattle.tlp_write.specs.Write.{later_rows, write_rows}
use Rattle.reads_rules.specs.declared.request.ReadRequest.{ReadRequest}
use Rattle.reads_rules.specs.Requests.{request_packet, given_bad}
use Rattle.reads_rules.proofs.RequestLaws.{read-type}
use Rattle.reads_demands.specs.AsWriter.{AsWriter}

-- the first place for 6 is one row, whatever comes after it
one-row : (a b c d : Bool) (later : ℕ) → pick a 6 (pick b 6 (pick c 6 (pick d 6 later))) ≡ pick (eqb (pick a 6 (pick b 6 (pick c 6 (pick d 6 0)))) 6) 6 later
one-row true b c d later = refl
one-row false true c d later = refl
one-row false false true d later = refl
one-row false false false true later = refl
one-row false false false false later = refl

given-place : (p : Packet) (later : List Row) → first (given_rows p ++ later) ≡ pick (eqb (first (given_rows p)) 6) 6 (first later)
unfolding first
given-place p later = one-row (common_bad p) (own_bad p.kind) (reserved_given p) (route_bad p.route p.kind) (first later)

module _ (requester tag : ℕ) (q : ReadRequest) where
  abbrev packet : Packet
  packet = request_packet requester tag q

  -- a requester ID and a tag within their fields give no 6
  same-given : requester < 2 ^ 16 → tag < 2 ^ 8 → first (given_rows packet) ≡ first (given_rows (request_packet 0 0 q))
  unfolding first request_packet common_bad own_bad request_bad reserved_given type_of route_bad
  same-given r t = rw (lt-leb (2 ^ 16) requester r, lt-leb (2 ^ 8) tag t)

  -- a read has no data, so 3, 5 and the second 6 do not come
  same-later : (settings : Settings) (space : ℕ)
      → first (later_rows settings packet 0 space)
      ≡ first (row 7 (enables_bad Memory q.access) ∷ row 8 (page_bad Memory q.access) ∷ row 12 (ltb space (size_of packet)) ∷ [])
  same-later settings space =
      let k = read-type requester tag q in rw (k.1 (access_of packet).length, le-ltb settings.mps 0 zero-le, k.0) (unfold first plain_bad request_packet access_of in refl)

pub as-writer : AsWriter
unfolding given_bad
as-writer settings requester tag q space listed r t =
    let a : first (write_rows settings (packet requester tag q) 0 space) ≡ first (given_rows (packet requester tag q) ++ later_rows settings (packet requester tag q) 0 space) =
    unfold first in rw listed in
    a ∙ given-place (packet requester tag q) (later_rows settings (packet requester tag q) 0 space)
    ∙ rw (same-given requester tag q r t, same-later requester tag q settings space) (unfold first in refl)
