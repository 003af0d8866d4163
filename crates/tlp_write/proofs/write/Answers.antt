use Rattle.std.proofs.Common.{rules, length}
use Rattle.tlp_write.proofs.WriteLaws.{field-refused, field_out, head-answer, head-out}
use Rattle.tlp_write.proofs.write.Goals as goal

pub returns-in_err-field_fault-clause-value : goal.returns-in_err-field_fault-clause-value
returns-in_err-field_fault-clause-value c =
    let e = field-refused _ _ _ c.in_err-field_fault.ensures (length c.args.payload.now) (length c.args.out.now) in
    search (rules, e)

pub returns-in_err-field_fault-clause-out_after : goal.returns-in_err-field_fault-clause-out_after
returns-in_err-field_fault-clause-out_after c = search (field_out, c.in_err-field_fault.ensures)

pub returns : goal.returns
returns c = record { value = search (head-answer, c.in_ok-field_fault.ensures); out_after = search (head-out, c.in_ok-field_fault.ensures) }
