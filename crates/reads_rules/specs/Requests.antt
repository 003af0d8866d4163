-- Document 01, open: "It is refused, in this order: 6, 7, 8 as the writer". A reader must believe all of it:
-- `request_rows` are these three rows, `request_packet` the packet whose header is written.
use Rattle.std.specs.Prelude.{ℕ, Bool, false, List, [], ◌∷◌, eqb}
use Rattle.tlp.specs.Rows.{Row, row, first}
use Rattle.tlp.specs.Contents.{enables_bad, page_bad}
use Rattle.tlp.specs.declared.packet_type.Family.TheVariants.{Memory}
use Rattle.tlp.specs.declared.packet.Route.TheVariants.{Address}
use Rattle.tlp.specs.declared.packet.Kind.TheVariants.{MemoryRead}
use Rattle.tlp.specs.declared.packet.Packet.{Packet}
use Rattle.tlp_writable.specs.Given.{given_rows}
use Rattle.reads_rules.specs.declared.request.ReadRequest.{ReadRequest}

-- the packet whose header open writes: "the header with TD, EP and AT zero"
unfoldable pub request_packet : ℕ → ℕ → ReadRequest → Packet
request_packet requester tag q = record {
  traffic_class = q.traffic_class;
  attributes = q.attributes;
  poisoned = false;
  has_digest = false;
  digest = 0;
  route = Address q.access.address;
  kind = MemoryRead (record {
    requester = requester;
    tag = tag;
    length = q.access.length;
    first = q.access.first;
    last = q.access.last;
  });
}

-- the writer's first place for 6; "a tag never gives 6 here", nor does the table's requester ID, so both are left 0
unfoldable pub given_bad : ReadRequest → Bool
given_bad q = eqb (first (given_rows (request_packet 0 0 q))) 6

-- "6, 7, 8 as the writer", by the writer's own definitions for a memory request
abbrev pub request_rows : ReadRequest → List Row
request_rows q =
    row 6 (given_bad q)
    ∷ row 7 (enables_bad Memory q.access)
    ∷ row 8 (page_bad Memory q.access)
    ∷ []
