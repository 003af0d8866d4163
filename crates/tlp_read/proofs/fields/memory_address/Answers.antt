use Rattle.tlp_read.proofs.ReadReturns.{address-laws}
use Rattle.tlp_read.proofs.fields.memory_address.Goals as goal

pub returns-then-is_wide : goal.returns-then-is_wide
returns-then-is_wide c = search address-laws

pub returns-else-is_wide : goal.returns-else-is_wide
returns-else-is_wide c = search address-laws
