use Rattle.std.proofs.Common.{arith}
use Rattle.std.proofs.lemmas.Grind.{common_steps}
use Rattle.tlp.proofs.FmtLaws.{type-listed}
use Rattle.tlp.proofs.packet_type.family_by_type.Goals as goal

pub returns-in-0-clause-where_listed : goal.returns-in-0-clause-where_listed
returns-in-0-clause-where_listed c = type-listed _ _ (grind (arith, common_steps))

pub returns-in-2-clause-where_listed : goal.returns-in-2-clause-where_listed
returns-in-2-clause-where_listed c = type-listed _ _ (grind (arith, common_steps))

pub returns-in-10-clause-where_listed : goal.returns-in-10-clause-where_listed
returns-in-10-clause-where_listed c = type-listed _ _ (grind (arith, common_steps))

pub returns-in-4-clause-where_listed : goal.returns-in-4-clause-where_listed
returns-in-4-clause-where_listed c = type-listed _ _ (grind (arith, common_steps))

pub returns-in_default-clause-where_listed : goal.returns-in_default-clause-where_listed
returns-in_default-clause-where_listed c = type-listed _ _ (grind (arith, common_steps))

pub returns-in_default-2-clause-where_listed : goal.returns-in_default-2-clause-where_listed
returns-in_default-2-clause-where_listed c = type-listed _ _ (grind (arith, common_steps))
