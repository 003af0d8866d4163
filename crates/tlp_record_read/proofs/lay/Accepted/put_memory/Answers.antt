use Rattle.tlp_record_read.proofs.LayLaws.{memory-put}
use mathlib.Core.Path.{refl}
use Rattle.tlp_record_read.proofs.lay.Accepted.put_memory.Goals as goal

pub returns : goal.returns
returns c =
    memory-put _ _ _ _ _ _ _ _ _ _ _ c.lay_front.ensures _ _ _ c.sizes_of-sizes.ensures.digest c.sizes_of-sizes.ensures.length _ c.requires.memory c.length_at.ensures c.kind_from.ensures c.all_attributes_at.ensures refl c.tag_at.ensures refl c.lay_address.ensures c.lay.ensures c.lay_request.ensures c.lay-2.ensures
