use Rattle.std.proofs.Common.{arith}
use Rattle.tlp.proofs.Bounds.{data-le, digest-le}
use Rattle.tlp_write.proofs.whole_size.Goals as goal

pub overflow_add-result : goal.overflow_add-result
overflow_add-result c = omega (arith, data-le c.args.h.packet_type c.args.h.length)

pub overflow_add-result-2 : goal.overflow_add-result-2
overflow_add-result-2 c = omega (arith, data-le c.args.h.packet_type c.args.h.length, digest-le c.args.h.has_digest)
