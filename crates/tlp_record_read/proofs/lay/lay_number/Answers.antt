use Rattle.tlp_record_read.proofs.LayLaws.{number-copied}
use Rattle.tlp_record_read.proofs.lay.lay_number.Goals as goal

pub returns : goal.returns
returns c = number-copied _ _ _ _ _ c.bytes32.ensures c.copy_from_slice.ensures.after
