use Prim.Native.Nat.{◌%◌}
use native.Mathlib.Omega.{arith}
use Rattle.bits.proofs.CountLaws.{leading_narrow, leading-above}
use Rattle.bits.proofs.count.clear_above.Goals as goal

pub overflow_sub-result : goal.overflow_sub-result
overflow_sub-result c = rw c.from.ensures (omega (arith, leading_narrow 4 32 (c.args.x % 16) (omega arith) (omega arith)))

pub returns : goal.returns
returns c =
    let n = c.args.x % 16 in
    rw c.from.ensures (omega (arith, leading_narrow 4 32 n (omega arith) (omega arith), leading-above 4 n (omega arith)))
