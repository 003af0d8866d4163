use borrow.Author.Rules.{rules}
use Rattle.reads_slots.proofs.AnyOpenLaws.{taken-of}
use Rattle.reads_slots.proofs.open_tags.window_taken.Goals as goal

pub returns : goal.returns
returns c =
    taken-of _ _ _ _ _
    ((λ e. let (u, r, (q, p)) = c.any_open.ensures.0 e in (u, r, (q, search rules))), (λ e u r q. let p = c.any_open.ensures.1 e u r q in search rules))
