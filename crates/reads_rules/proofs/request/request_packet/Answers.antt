use Rattle.reads_rules.specs.Requests.{request_packet}
use Rattle.reads_rules.proofs.request.request_packet.Goals as goal

pub returns : goal.returns
unfolding request_packet
returns c = cc
