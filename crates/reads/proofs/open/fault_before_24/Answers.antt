use borrow.Author.Rules.{rules}
use Rattle.tlp.specs.Rows.{first}
use Rattle.reads.proofs.OpenLaws.{given-11, limit-over, tag-open, place-last}
use Rattle.reads.proofs.open.fault_before_24.Goals as goal

pub returns-then-not-valid : goal.returns-then-not-valid
returns-then-not-valid c = search given-11

pub returns-in_err-request_fault : goal.returns-in_err-request_fault
unfolding first
returns-in_err-request_fault c = search rules

pub returns-then-tag_limit-tag : goal.returns-then-tag_limit-tag
returns-then-tag_limit-tag c = limit-over _ c.args.o _ _ _ _ c.if-not-valid.false _ c.request_fault.ensures _ c.in_ok-request_fault.was _ c.tag_limit.ensures c.if-tag_limit-tag.true

pub returns-then-is_some : goal.returns-then-is_some
returns-then-is_some c =
    tag-open _ c.args.o _ _ _ _ c.if-not-valid.false _ c.request_fault.ensures _ c.in_ok-request_fault.was _ c.tag_limit.ensures c.if-tag_limit-tag.false _ c.is_some.ensures c.if-is_some.true

pub returns : goal.returns
returns c =
    place-last _ c.args.o _ _ _ _ c.if-not-valid.false _ c.request_fault.ensures _ c.in_ok-request_fault.was _ c.tag_limit.ensures c.if-tag_limit-tag.false _ c.is_some.ensures _ c.if-is_some.false c.place_fault.ensures
