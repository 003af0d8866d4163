use Rattle.tlp_record_write.proofs.KindHeadLaws.{config-none, config-some}
use Rattle.tlp_record_write.proofs.kind_head.config_head.Goals as goal

pub returns-then-not-config_fits : goal.returns-then-not-config_fits
returns-then-not-config_fits c = search config-none

pub returns : goal.returns
returns c = search config-some depth 10 fits 4000
