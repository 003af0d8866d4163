use Rattle.tlp_record_write.proofs.Writable.{not-long, not-shared}
use Rattle.tlp_record_write.proofs.head_in.Goals as goal

pub returns-in_err-record : goal.returns-in_err-record
returns-in_err-record c = rw c.from_residual.ensures (not-long c.args.record.now c.in_err-record.ensures.cases)

pub returns-then-not-shared_fits : goal.returns-then-not-shared_fits
returns-then-not-shared_fits c =
    let k = c.in_ok-record.ensures.cases in
    not-shared c.args.record.now c.in_ok-record.record.now k.long k.same (λ i. (c.type_inv.record i).fits) c.if-not-shared_fits.ensures
