use Rattle.tlp_record_read.proofs.LayLaws.{completion-put}
use mathlib.Core.Path.{refl}
use Rattle.tlp_record_read.proofs.lay.Accepted.put_completion.Goals as goal

pub returns : goal.returns
returns c =
    completion-put _ _ _ _ _ _ _ _ _ _ _ c.lay_front.ensures _ _ _ c.sizes_of-sizes.ensures.digest c.sizes_of-sizes.ensures.length _ _ _ _ c.requires.completion c.length_given.ensures c.kind_from.ensures c.all_attributes_at.ensures refl c.completion_tag_at.ensures refl c.route_id_at.ensures c.from.ensures c.lay_value.ensures c.byte_count_field_at-count.ensures c.completer_at.ensures c.lay_counted.ensures c.lay_status.ensures
