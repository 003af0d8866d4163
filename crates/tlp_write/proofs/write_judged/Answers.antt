use Rattle.std.proofs.Common.{rules}
use Rattle.tlp_write.proofs.WriteLaws.{refused-out, written_out, written-room}
use Rattle.tlp_write.proofs.write_judged.Goals as goal

pub returns-in_err-size-clause-out_after : goal.returns-in_err-size-clause-out_after
returns-in_err-size-clause-out_after c = search (refused-out, c.in_err-size.ensures)

pub put_packet-requires : goal.put_packet-requires
put_packet-requires c = written-room _ _ _ _ _ _ c.in_ok-size.ensures

pub returns : goal.returns
returns c = record { value = search rules; out_after = written_out _ _ _ _ _ _ c.in_ok-size.ensures _ c.put_packet.ensures }
