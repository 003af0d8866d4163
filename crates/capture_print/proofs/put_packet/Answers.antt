use mathlib.Core.Path.{◌≡◌}
use Rattle.capture_print.specs.Outputs.{packet_output}
use Rattle.capture_print.proofs.PrintLaws.{packet-made}
use Rattle.capture_print.proofs.put_packet.Goals as goal

pub returns : goal.returns
returns c =
    let line : c.add-5.new.self ≡ packet_output c.args.packet = packet-made _ c.new-line.ensures _ _ _ _ _ _ _ _ _ _ _ _ c.type_of.ensures c.kind_word.ensures.word c.tag_in.ensures c.access_of.ensures
    c.add.ensures c.add-2.ensures c.add-3.ensures c.add_number.ensures.line c.add-4.ensures c.add_number-2.ensures.line c.add-5.ensures in
    record { answer = cc; output = cc }
