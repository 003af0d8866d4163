use Rattle.byte_enables.proofs.Returns.{below_laws}
use Rattle.byte_enables.proofs.enabled_below.Goals as goal

pub returns-then-n-eq0 : goal.returns-then-n-eq0
returns-then-n-eq0 c = search below_laws

pub returns-then-m-n : goal.returns-then-m-n
returns-then-m-n c = search below_laws

pub returns-then-n-eq1 : goal.returns-then-n-eq1
returns-then-n-eq1 c = search below_laws

pub returns-else-n-eq1 : goal.returns-else-n-eq1
returns-else-n-eq1 c = search below_laws
