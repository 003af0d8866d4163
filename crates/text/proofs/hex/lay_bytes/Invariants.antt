use Rattle.std.proofs.Common.{◌≡◌, ◌-◌, ◌*◌, true, length, take, drop}
use Rattle.text.specs.Digit.{all_digits}
use Rattle.text.specs.Hex.{pairs}
use Rattle.bits.specs.Put.{put}
use Rattle.text.proofs.hex.lay_bytes.Given as goal

abbrev pub invariant-loop-i : goal.invariant-loop-i
invariant-loop-i l = (length l.out ≡ length l.initial.out) × ((all_digits 16 (drop (2 * l.i) l.text) ≡ true) × (put l.i (take (l.n - l.i) (pairs (drop (2 * l.i) l.text))) l.out ≡ put 0 (take l.n (pairs l.text)) l.initial.out))
