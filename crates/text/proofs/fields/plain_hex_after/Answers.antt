use Rattle.std.proofs.Common.{rules}
use Rattle.text.specs.Hex.{hex_plain}
use Rattle.text.specs.Fields.{plain_hex_after}
use Rattle.text.proofs.fields.plain_hex_after.Goals as goal

pub returns : goal.returns
unfolding plain_hex_after
returns c = c.read_after.ensures hex_plain (λ text n p. search rules)
