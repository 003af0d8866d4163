use Rattle.text.proofs.NumberLaws.{plain-laws}
use Rattle.text.proofs.hex.hex_plain.Goals as goal

pub returns-then-is_plain : goal.returns-then-is_plain
returns-then-is_plain c = search plain-laws

pub returns-else-is_plain : goal.returns-else-is_plain
returns-else-is_plain c = search plain-laws
