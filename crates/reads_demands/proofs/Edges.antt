-- P1 to P11, computed: the theorem `EdgesHold`.
use mathlib.Core.Path.{refl}
use Rattle.bits.specs.Count.{clear_below, clear_above}
use Rattle.byte_enables.specs.Enables.{enables_allowed, off, trail, total, enables_at, enabled}
use Rattle.scans.specs.Merges.{merged}
use Rattle.tlp.specs.Rows.{first}
use Rattle.tlp.specs.Settings.{settings_listed}
use Rattle.tlp.specs.PacketTypes.{type_at}
use Rattle.tlp.specs.Packets.{type_of, access_of}
use Rattle.tlp.specs.Sizes.{or_most, length_at, digest_at, data_bytes, digest_bytes, bytes_called}
use Rattle.tlp.specs.Contents.{plain_bad, enables_bad, page_bad}
use Rattle.tlp_read.specs.Fields.{request_at, route_at, kind_at, packet_at}
use Rattle.tlp_read.specs.Read.{hint_or_address_type_set, routing_bad, form_bad}
use Rattle.tlp_writable.specs.Given.{common_bad, request_bad, own_bad, reserved_given, address_route_bad, route_bad}
use Rattle.tlp_write.specs.Layout.{routing_in, memory_address, own_bytes, front_bytes, header_of, size_of}
use Rattle.reads_rules.specs.Requests.{request_packet, given_bad}
use Rattle.reads_rules.specs.Windows.{holds_window}
use Rattle.reads_rules.specs.Continuations.{byte_count_at, lower_address_at, cut_allowed, legal, status_bad, differs}
use Rattle.reads_store.specs.Stores.{stored}
use Rattle.cuttings.specs.Rows.{rows_from, cuttings}
use Rattle.reads_demands.specs.Edges.{EdgesHold}

pub edges-hold : EdgesHold
unfolding first settings_listed type_at type_of access_of enables_allowed off trail total enables_at enabled clear_below
    clear_above or_most length_at digest_at data_bytes digest_bytes bytes_called plain_bad enables_bad page_bad request_at
    route_at kind_at packet_at hint_or_address_type_set routing_bad form_bad common_bad request_bad own_bad reserved_given
    address_route_bad route_bad routing_in memory_address own_bytes front_bytes header_of size_of request_packet given_bad
    holds_window byte_count_at lower_address_at cut_allowed legal status_bad differs merged stored rows_from cuttings
edges-hold = refl
