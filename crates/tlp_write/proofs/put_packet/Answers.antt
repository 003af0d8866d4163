use Rattle.tlp_write.proofs.WriteLaws.{packet-front, packet-room, packet-put}
use Rattle.tlp_write.proofs.put_packet.Goals as goal

pub put_front-n-requires : goal.put_front-n-requires
put_front-n-requires c = search packet-front

pub put_digest-requires : goal.put_digest-requires
put_digest-requires c = search packet-room

pub returns : goal.returns
returns c = search packet-put
