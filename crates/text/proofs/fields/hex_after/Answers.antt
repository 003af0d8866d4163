use Rattle.std.proofs.Common.{rules, sym, ◌∙◌}
use Rattle.text.specs.Fields.{fixed_hex, hex_after}
use Rattle.text.proofs.Bounds.{if-some, hex-after-lt}
use Rattle.text.proofs.fields.hex_after.Goals as goal

value : goal.returns-clause-value
unfolding hex_after
value c = c.read_after.ensures (fixed_hex c.args.width) (λ text n p. search rules)

pub returns-clause-value : goal.returns-clause-value
returns-clause-value = value

pub returns-clause-within : goal.returns-clause-within
returns-clause-within c = if-some c.read_after.result _ (λ f e. hex-after-lt _ _ _ f c.args.width (sym (value c) ∙ e))
