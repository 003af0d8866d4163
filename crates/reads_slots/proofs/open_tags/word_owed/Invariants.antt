use Prim.Native.Nat.{◌+◌, ◌^◌, ◌<◌}
use mathlib.Core.Path.{◌≡◌}
use Rattle.scans.specs.Belows.{sum_below}
use Rattle.reads_slots.specs.Inner.WordScans.{owed_in_word}
use Rattle.reads_slots.proofs.open_tags.word_owed.Given as goal

abbrev pub invariant-loop-rest : goal.invariant-loop-rest
invariant-loop-rest l = (l.rest < 2 ^ 64) × (l.sum + sum_below 64 (owed_in_word l.rest l.words l.from) ≡ sum_below 64 (owed_in_word l.w l.words l.from))

abbrev pub decreases-loop-rest : goal.decreases-loop-rest
decreases-loop-rest l = l.rest
