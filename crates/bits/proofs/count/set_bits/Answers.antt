use Prim.Native.Nat.{◌%◌}
use native.Mathlib.Omega.{arith}
use Rattle.bits.proofs.CountLaws.{ones-set}
use Rattle.bits.proofs.count.set_bits.Goals as goal

pub returns : goal.returns
returns c = rw c.from.ensures (ones-set 4 (c.args.x % 16) (omega arith))
