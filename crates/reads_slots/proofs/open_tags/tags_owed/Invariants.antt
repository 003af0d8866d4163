use Prim.Native.Nat.{◌*◌}
use mathlib.Core.Path.{◌≡◌}
use Rattle.scans.specs.Belows.{sum_below}
use Rattle.reads_slots.specs.Records.{owed_at}
use Rattle.reads_slots.proofs.open_tags.tags_owed.Given as goal

abbrev pub invariant-loop-j : goal.invariant-loop-j
invariant-loop-j l = l.sum ≡ sum_below (64 * l.j) (owed_at l.limit l.opened l.words)
