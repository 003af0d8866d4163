use borrow.Author.Rules.{rules}
use Rattle.reads_slots.proofs.AnyOpenLaws.{valid-of}
use Rattle.reads_slots.proofs.open_tags.all_valid.Goals as goal

pub returns : goal.returns
returns c =
    valid-of _ _ _ _ _
    ((λ e. let (u, r, (q, p)) = c.any_open.ensures.0 e in (u, r, (q, search rules))), (λ e u r q. let p = c.any_open.ensures.1 e u r q in search rules))
