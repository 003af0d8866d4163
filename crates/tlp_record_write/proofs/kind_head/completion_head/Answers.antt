use Rattle.std.proofs.Common.{rules, ◌≡◌, eqb}
use Rattle.bits.specs.Choice.{pick}
use Rattle.bits.specs.Word.{byte}
use Rattle.tlp.specs.declared.packet_type.PacketType.TheVariants.{CplD, Cpl}
use Rattle.tlp_record_write.proofs.KindHeadLaws.{completion-none, completion-some}
use Rattle.tlp_record_write.proofs.kind_head.completion_head.Goals as goal

pub returns-then-not-completion_fits : goal.returns-then-not-completion_fits
returns-then-not-completion_fits c = search completion-none

pub returns : goal.returns
returns c =
    let t : c.if-record-eq12.result ≡ pick (eqb (byte c.args.record.now 0) 12) CplD Cpl = search rules in
    search (completion-some, t) depth 10 fits 4000
