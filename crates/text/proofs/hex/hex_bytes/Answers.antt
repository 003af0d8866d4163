use Rattle.text.proofs.HexLaws.{spelled-laws}
use Rattle.text.proofs.hex.hex_bytes.Goals as goal

pub returns : goal.returns
returns c = record { value = search spelled-laws; out_after = search spelled-laws }
