use native.Mathlib.Omega.{arith}
use Rattle.tlp.proofs.Bounds.{header-le, data-le, digest-le}
use Rattle.tlp.specs.Sizes.{bytes_called}
use Rattle.tlp.proofs.size.bytes_called.Goals as goal

pub overflow_mul-result : goal.overflow_mul-result
overflow_mul-result c = omega (arith, header-le c.args.t)

pub overflow_add-result : goal.overflow_add-result
overflow_add-result c = omega (arith, header-le c.args.t, data-le c.args.t c.length_at.result, c.length_at)

pub overflow_add-result-2 : goal.overflow_add-result-2
overflow_add-result-2 c =
    omega (arith, header-le c.args.t, data-le c.args.t c.length_at.result, digest-le c.digest_at.result, c.length_at)

pub returns : goal.returns
unfolding bytes_called
returns c = cc
