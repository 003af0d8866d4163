use Rattle.tlp_record_read.proofs.LayLaws.{config-put}
use mathlib.Core.Path.{refl}
use Rattle.tlp_record_read.proofs.lay.Accepted.put_config.Goals as goal

pub returns : goal.returns
returns c =
    config-put _ _ _ _ _ _ _ _ _ _ _ c.lay_front.ensures _ _ _ c.sizes_of-sizes.ensures.digest c.sizes_of-sizes.ensures.length _ _ c.requires.config c.length_at.ensures c.config_kind.ensures c.low_attributes_at.ensures refl c.tag_at.ensures refl c.route_id_at.ensures c.from.ensures c.lay_value.ensures c.lay_request.ensures c.lay_registers.ensures
