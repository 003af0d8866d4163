use Rattle.tlp_record_read.proofs.ReadLaws.{read-refused-answer, read-refused-record, read-short-answer, read-laid-answer, read-laid-record, read-family, read-room}
use Rattle.std.proofs.Common.{rules}
use Rattle.tlp_record_read.proofs.read_record.Goals as goal

pub returns-in_err-check-clause-value : goal.returns-in_err-check-clause-value
returns-in_err-check-clause-value c =
    let e = read-refused-answer _ _ _ c.in_err-check.ensures in
    search (rules, e)

pub returns-in_err-check-clause-record_after : goal.returns-in_err-check-clause-record_after
returns-in_err-check-clause-record_after c = search (read-refused-record, c.in_err-check.ensures)

pub returns-in_default-clause-value : goal.returns-in_default-clause-value
returns-in_default-clause-value c = read-short-answer _ _ c.in_ok-check.ensures _ c.in_default.ensures.cases

pub put_record-requires-clause-own_family : goal.put_record-requires-clause-own_family
put_record-requires-clause-own_family c = search (read-family, c.in_ok-check.ensures)

pub invariant_of-accepted : goal.invariant_of-accepted
invariant_of-accepted c = record { header_there = read-room _ _ c.in_ok-check.ensures }

pub returns-clause-value : goal.returns-clause-value
returns-clause-value c = read-laid-answer _ _ c.in_ok-check.ensures _ c.in-Some.ensures.cases.enough

pub returns-clause-record_after : goal.returns-clause-record_after
returns-clause-record_after c =
    read-laid-record _ _ c.in_ok-check.ensures c.args.record.now c.in-Some.front.now c.put_record.new.record c.in-Some.ensures.cases.enough c.in-Some.ensures.cases.same c.put_record.ensures
