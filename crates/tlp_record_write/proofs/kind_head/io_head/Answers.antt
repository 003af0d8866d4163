use Rattle.std.proofs.Common.{rules, ◌≡◌, eqb}
use Rattle.bits.specs.Choice.{pick}
use Rattle.bits.specs.Word.{byte}
use Rattle.tlp.specs.declared.packet_type.PacketType.TheVariants.{IORd, IOWr}
use Rattle.tlp_record_write.proofs.KindHeadLaws.{io-none, io-some}
use Rattle.tlp_record_write.proofs.kind_head.io_head.Goals as goal

pub returns-then-not-io_fits : goal.returns-then-not-io_fits
returns-then-not-io_fits c = search io-none

pub returns : goal.returns
returns c =
    let t : c.if-record-eq3.result ≡ pick (eqb (byte c.args.record.now 0) 3) IORd IOWr = search rules in
    search (io-some, t) depth 10 fits 4000
