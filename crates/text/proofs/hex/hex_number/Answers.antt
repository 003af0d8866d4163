use Rattle.text.proofs.HexLaws.{hex-laws}
use Rattle.text.proofs.hex.hex_number.Goals as goal

pub returns-then-text-le16 : goal.returns-then-text-le16
returns-then-text-le16 c = search hex-laws

pub returns-else-text-le16 : goal.returns-else-text-le16
returns-else-text-le16 c = search hex-laws
