use Prim.Native.Nat.{◌%◌}
use mathlib.Core.Path.{◌∙◌}
use native.Mathlib.Omega.{arith}
use Rattle.bits.proofs.CountLaws.{trailing-least, trailing_below}
use Rattle.bits.proofs.count.clear_below.Goals as goal

pub returns : goal.returns
returns c =
    let n = c.args.x % 16 in
    rw (c.min.ensures, c.from.ensures) (trailing-least 4 32 n (omega arith) ∙ trailing_below 4 n)
