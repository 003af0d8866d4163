use borrow.Author.Rules.{rules}
use Rattle.reads.proofs.OpenLaws.{open-refused, out-refused, open-unwritten, out-written, open-done, tag_fits}
use Rattle.reads.proofs.open.open_lent.Goals as goal

pub returns-in_err-fault_before_12 : goal.returns-in_err-fault_before_12
returns-in_err-fault_before_12 c = record {
  result_after = open-refused _ _ _ _ _ _ _ c.fault_before_12.ensures _ _ _ c.in_err-fault_before_12.was (search rules);
  out_after = out-refused _ _ _ _ _ _ _ c.fault_before_12.ensures _ _ c.in_err-fault_before_12.was;
}

pub overflow_cast-tag : goal.overflow_cast-tag
overflow_cast-tag c = record { fits = tag_fits _ _ _ _ _ _ c.fault_before_12.ensures c.in_ok-fault_before_12.was }

pub returns-in_err-size : goal.returns-in_err-size
returns-in_err-size c = record {
  result_after = open-unwritten _ _ _ _ _ _ _ c.fault_before_12.ensures _ c.in_ok-fault_before_12.was _ _ c.write_header.ensures.value _ _ c.in_err-size.was (search rules);
  out_after = out-written _ _ _ _ _ _ _ c.fault_before_12.ensures _ c.in_ok-fault_before_12.was _ _ c.write_header.ensures.out_after;
}

pub returns : goal.returns
returns c = record {
  result_after = open-done _ _ _ _ _ _ _ c.fault_before_12.ensures _ c.in_ok-fault_before_12.was _ _ c.write_header.ensures.value _ _ _ c.in_ok-size.was c.put_state.ensures.opened_after c.put_state.ensures.words_after;
  out_after = out-written _ _ _ _ _ _ _ c.fault_before_12.ensures _ c.in_ok-fault_before_12.was _ _ c.write_header.ensures.out_after;
}
