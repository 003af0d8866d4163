use native.Mathlib.Omega.{arith}
use Rattle.byte_enables.proofs.Laws.{enabled-from}
use Rattle.byte_enables.proofs.enabled_bytes.Goals as goal

pub overflow_sub-result : goal.overflow_sub-result
overflow_sub-result c =
    let a = c.args in
    omega (arith, enabled-from a.a a.p a.n)

pub returns : goal.returns
returns c =
    let a = c.args in
    omega (arith, enabled-from a.a a.p a.n)
