use Rattle.text.proofs.DigitLaws.{digit-laws}
use Rattle.text.proofs.hex.hex_digit.Goals as goal

pub returns-then-d-lt10 : goal.returns-then-d-lt10
returns-then-d-lt10 c = search digit-laws

pub returns-else-d-lt10 : goal.returns-else-d-lt10
returns-else-d-lt10 c = search digit-laws
