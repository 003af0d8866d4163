use Rattle.tlp_record_read.proofs.LayLaws.{message-put, message-room}
use Rattle.tlp_record_read.proofs.lay.Accepted.put_message.Goals as goal

pub returns : goal.returns
returns c =
    let room = message-room _ c.requires.message c.args.self.header_there in
    message-put _ _ _ _ _ _ _ _ _ _ _ c.lay_front.ensures _ _ _ c.sizes_of-sizes.ensures.digest c.sizes_of-sizes.ensures.length _ _ _ c.requires.message c.length_given.ensures room c.kind_from.ensures c.all_attributes_at.ensures c.message_case.ensures c.tag_at.ensures c.code_at.ensures c.message_value.ensures c.whole_body_at.ensures.where_there c.lay_value.ensures c.requester_at.ensures c.lay_counted.ensures c.lay.ensures
