use Rattle.tlp_record_read.proofs.LayLaws.{config-kind-law, family-listed}
use native.Mathlib.Omega.{arith}
use Rattle.tlp_record_read.proofs.lay.config_kind.Goals as goal

pub kind_from-requires : goal.kind_from-requires
kind_from-requires c = record { room = omega arith; listed = search family-listed }

pub returns : goal.returns
returns c = search config-kind-law
