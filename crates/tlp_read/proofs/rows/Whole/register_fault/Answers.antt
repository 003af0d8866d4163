use mathlib.Core.Path.{refl}
use borrow.Author.Rules.{rules}
use Rattle.tlp_read.proofs.ReadReturns.{register-rows, row-5-given, row-5-passed}
use Rattle.tlp.proofs.RowLaws.{here, rows}
use Rattle.tlp.proofs.RefusalLaws.{refused, accepted}
use Rattle.tlp_read.proofs.rows.Whole.register_fault.Goals as goal

pub returns-in_err-payload_fault : goal.returns-in_err-payload_fault
returns-in_err-payload_fault c =
    row-5-given _ _ _ _ (search rules) c.in_err-payload_fault.ensures (λ h. register-rows _ _ _ _ c.requires (here _ 5 _ _ refl h))

pub returns-then-not_plain_at : goal.returns-then-not_plain_at
returns-then-not_plain_at c = search (register-rows, row-5-passed, c.in_ok-payload_fault.was, rows, refused) depth 12 fits 4000

pub returns-then-last_given : goal.returns-then-last_given
returns-then-last_given c = search (register-rows, row-5-passed, c.in_ok-payload_fault.was, rows, refused) depth 12 fits 4000

pub returns : goal.returns
returns c = search (register-rows, row-5-passed, c.in_ok-payload_fault.was, rows, accepted) depth 12 fits 4000
