use Rattle.std.proofs.Common.{◌+◌, ◌%◌, arith, rules}
use Rattle.text.proofs.DigitLaws.{value_low, value-high}
use Rattle.text.proofs.hex.hex_value.Goals as goal

pub returns-then-number-lt10 : goal.returns-then-number-lt10
returns-then-number-lt10 c = value_low c.args.b ((c.args.b + 208) % 256) (omega arith) (omega arith) c.if-number-lt10.true

pub returns-else-number-lt10 : goal.returns-else-number-lt10
returns-else-number-lt10 c =
    value-high c.args.b ((c.args.b + 208) % 256) (omega arith) (omega arith) ((c.args.b + 159) % 256) c.min-letter.result (omega arith) (omega arith) (search rules) c.if-number-lt10.false
