use Rattle.reads.proofs.OpenLaws.{header-laws}
use Rattle.reads.proofs.open.write_header.Goals as goal

pub returns : goal.returns
returns c = record { value = search header-laws; out_after = search header-laws }
