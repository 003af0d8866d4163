use Prim.Native.Nat.{◌*◌, ◌^◌, ◌<◌}
use Rattle.reads_slots.proofs.AnyOpenLaws.{Passed, Stands, Looked}
use Rattle.reads_slots.proofs.open_tags.any_open.Given as goal

abbrev pub invariant-loop-j : goal.invariant-loop-j
invariant-loop-j g l = Passed (goal.F-post g l.test) l.limit l.opened l.words (64 * l.j)

abbrev pub invariant-loop-rest : goal.invariant-loop-rest
invariant-loop-rest g l =
    (l.rest < 2 ^ 64)
    × (Stands (goal.F-post g l.test) l.limit l.opened l.words l.j l.rest × Looked (goal.F-post g l.test) l.limit l.opened l.words l.j l.rest)

abbrev pub decreases-loop-rest : goal.decreases-loop-rest
decreases-loop-rest g l = l.rest
