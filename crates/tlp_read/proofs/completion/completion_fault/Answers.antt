use Rattle.tlp.proofs.RowLaws.{rows}
use Rattle.tlp.proofs.RefusalLaws.{refused, accepted}
use Rattle.tlp_read.proofs.completion.completion_fault.Goals as goal

pub returns-then-bytes-size_with_digest : goal.returns-then-bytes-size_with_digest
returns-then-bytes-size_with_digest c = search (rows, refused) depth 12 fits 4000

pub returns-then-mps-size : goal.returns-then-mps-size
returns-then-mps-size c = search (rows, refused) depth 12 fits 4000

pub returns : goal.returns
returns c = search (rows, accepted) depth 12 fits 4000
