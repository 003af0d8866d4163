use mathlib.Core.Path.{◌≡◌}
use lib.ListN.{length, take}
use Rattle.byte_enables.specs.Enables.{enabled}
use Rattle.scans.specs.Merges.{merged}
use Rattle.reads_store.proofs.store_tested.Given as goal

abbrev pub invariant-loop-i : goal.invariant-loop-i
invariant-loop-i l = (length l.part ≡ length l.initial.part) × (l.part ≡ merged (enabled l.a) l.k (take l.i l.payload) l.initial.part)
