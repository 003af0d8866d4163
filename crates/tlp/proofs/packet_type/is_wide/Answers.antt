use mathlib.Core.Path.{refl}
use Rattle.tlp.proofs.FmtLaws.{wide-law}
use Rattle.tlp.proofs.packet_type.is_wide.Goals as goal

pub returns : goal.returns
returns c = record { value = refl; where_listed = search wide-law }
