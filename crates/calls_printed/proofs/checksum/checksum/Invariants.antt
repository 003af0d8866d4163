-- What is still to be put in gives the checksum of all.
use Rattle.std.proofs.Common.{◌≡◌, drop}
use Rattle.calls_printed.specs.Checksum.{checksum_from, checksum}
use Rattle.calls_printed.proofs.checksum.checksum.Given as goal

abbrev pub invariant-loop-b : goal.invariant-loop-b
invariant-loop-b l = checksum_from l.hash (drop l.b-index l.bytes) ≡ checksum l.bytes
