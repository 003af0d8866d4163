use Rattle.tlp_record_read.proofs.LayLaws.{io-put}
use mathlib.Core.Path.{refl}
use Rattle.tlp_record_read.proofs.lay.Accepted.put_io.Goals as goal

pub returns : goal.returns
returns c =
    io-put _ _ _ _ _ _ _ _ _ _ _ c.lay_front.ensures _ _ _ c.sizes_of-sizes.ensures.digest c.sizes_of-sizes.ensures.length _ c.requires.io c.length_at.ensures c.kind_from.ensures c.low_attributes_at.ensures refl c.tag_at.ensures refl c.address32_at.ensures c.lay_value.ensures c.lay_request.ensures c.lay.ensures
