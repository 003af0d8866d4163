use Rattle.capture_blocks.proofs.StepReturns.{step-first-laws, ended-one, ended-inside, room-long, room-open}
use Rattle.capture_blocks.proofs.step_first.Goals as goal

pub step_header-requires : goal.step_header-requires
step_header-requires c = record { end = (search ended-one depth 12 fits 4000, search ended-inside depth 12 fits 4000); room = c.requires }

pub refuse_header-requires : goal.refuse_header-requires
refuse_header-requires c = search room-long

pub refuse_header-requires-else-end-le-TEXT_MOST : goal.refuse_header-requires-else-end-le-TEXT_MOST
refuse_header-requires-else-end-le-TEXT_MOST c = search room-open

pub returns-in-Ended : goal.returns-in-Ended
returns-in-Ended c = record { answer = search step-first-laws depth 12 fits 4000; output = search step-first-laws depth 12 fits 4000 }

pub returns-in-OverLong : goal.returns-in-OverLong
returns-in-OverLong c = record { answer = search step-first-laws depth 12 fits 4000; output = search step-first-laws depth 12 fits 4000 }

pub returns-then-end-le-TEXT_MOST : goal.returns-then-end-le-TEXT_MOST
returns-then-end-le-TEXT_MOST c = record { answer = search step-first-laws depth 12 fits 4000; output = search step-first-laws depth 12 fits 4000 }

pub returns-else-end-le-TEXT_MOST : goal.returns-else-end-le-TEXT_MOST
returns-else-end-le-TEXT_MOST c = record { answer = search step-first-laws depth 12 fits 4000; output = search step-first-laws depth 12 fits 4000 }
