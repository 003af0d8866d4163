use Rattle.tlp_record_read.proofs.LayLaws.{sizes-laid}
use Rattle.tlp_record_read.proofs.lay.lay_sizes.Goals as goal

pub returns : goal.returns
returns c = search sizes-laid
