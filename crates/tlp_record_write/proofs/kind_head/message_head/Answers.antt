use Rattle.std.proofs.Common.{rules, ◌≡◌, eqb}
use Rattle.bits.specs.Choice.{pick}
use Rattle.bits.specs.Word.{byte}
use Rattle.tlp.specs.declared.packet_type.PacketType.TheVariants.{MsgD, Msg}
use Rattle.tlp_record_write.proofs.KindHeadLaws.{message-none, message-some}
use Rattle.tlp_record_write.proofs.kind_head.message_head.Goals as goal

pub returns-then-not-message_fits : goal.returns-then-not-message_fits
returns-then-not-message_fits c = search message-none

pub returns : goal.returns
returns c =
    let t : c.if-record-eq10.result ≡ pick (eqb (byte c.args.record.now 0) 10) MsgD Msg = search rules in
    search (message-some, t) depth 10 fits 4000
