use native.Mathlib.Omega.{arith}
use Rattle.tlp.proofs.Bounds.{header-le}
use Rattle.tlp_read.proofs.PayloadReturns.{payload-law}
use Rattle.tlp_read.proofs.payload.Goals as goal

pub overflow_mul-header_dw : goal.overflow_mul-header_dw
overflow_mul-header_dw c = omega (arith, header-le c.type_of-t.result)

pub returns : goal.returns
returns c = search payload-law depth 8
