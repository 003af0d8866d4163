use Rattle.tlp_read.proofs.ReadReturns.{size-law}
use Rattle.tlp.proofs.Bounds.{digest-le}
use native.Mathlib.Omega.{arith}
use Rattle.tlp_read.proofs.rows.size_with_digest.Goals as goal

pub overflow_add-result-2 : goal.overflow_add-result-2
overflow_add-result-2 c = omega (arith, digest-le c.digest_at.result, c.digest_bytes)

pub returns : goal.returns
returns c = search size-law
