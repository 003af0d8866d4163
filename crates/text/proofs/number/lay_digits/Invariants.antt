use Rattle.std.proofs.Common.{◌≡◌, ◌+◌, ◌-◌, ◌≤◌, length}
use Rattle.text.specs.Number.{digits}
use Rattle.bits.specs.Put.{put}
use Rattle.text.proofs.number.lay_digits.Given as goal

abbrev pub invariant-loop-i : goal.invariant-loop-i
invariant-loop-i l = (l.at ≤ l.i) × ((l.i ≤ l.at + l.w) × ((length l.out ≡ length l.initial.out) × (put l.at (digits l.base (l.i - l.at) l.m) l.out ≡ put l.at (digits l.base l.w l.n) l.initial.out)))

abbrev pub decreases-loop-i : goal.decreases-loop-i
decreases-loop-i l = l.i - l.at
