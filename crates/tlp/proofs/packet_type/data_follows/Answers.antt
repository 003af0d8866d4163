use mathlib.Core.Path.{refl}
use Rattle.tlp.proofs.FmtLaws.{data-law}
use Rattle.tlp.proofs.packet_type.data_follows.Goals as goal

pub returns : goal.returns
returns c = record { value = refl; where_listed = search data-law }
