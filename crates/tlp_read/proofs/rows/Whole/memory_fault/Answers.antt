use borrow.Author.Rules.{rules}
use Rattle.tlp_read.proofs.ReadReturns.{memory-rows, memory-rows-of, memory-listed, row-5-given, row-5-passed, rows-7-8-given, rows-7-8-passed}
use Rattle.tlp.proofs.RowLaws.{here, next, rows}
use Rattle.tlp.proofs.RefusalLaws.{refused, accepted}
use Rattle.tlp_read.proofs.rows.Whole.memory_fault.Goals as goal

pub returns-then-hint_or_address_type_at : goal.returns-then-hint_or_address_type_at
returns-then-hint_or_address_type_at c = search (memory-rows, rows, refused) depth 12 fits 4000

pub returns-in_err-payload_fault : goal.returns-in_err-payload_fault
returns-in_err-payload_fault c =
    row-5-given _ _ _ _ (search rules) c.in_err-payload_fault.ensures (λ h. memory-rows _ _ _ _ c.requires (search (next, here, h)))

pub returns-in_err-memory_fault : goal.returns-in_err-memory_fault
returns-in_err-memory_fault c =
    rows-7-8-given _ _ _ _ _ (search rules) c.in_err-memory_fault.ensures
    (λ h. search (memory-rows-of, row-5-passed, c.in_ok-payload_fault.was, next, here, h) depth 12 fits 4000)
    (λ h k. search (memory-rows-of, row-5-passed, c.in_ok-payload_fault.was, next, here, h, k) depth 12 fits 4000)

pub wide_form_bad-requires : goal.wide_form_bad-requires
wide_form_bad-requires c = search memory-listed

pub returns-then-wide_form_bad : goal.returns-then-wide_form_bad
returns-then-wide_form_bad c = search (memory-rows-of, row-5-passed, c.in_ok-payload_fault.was, rows-7-8-passed, c.in_ok-memory_fault.was, rows, refused) depth 12 fits 4000

pub returns : goal.returns
returns c = search (memory-rows-of, row-5-passed, c.in_ok-payload_fault.was, rows-7-8-passed, c.in_ok-memory_fault.was, rows, accepted) depth 12 fits 4000
