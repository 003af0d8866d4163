use Rattle.std.proofs.Common.{rules, sym, ◌∙◌}
use Rattle.text.specs.Decimal.{decimal_number}
use Rattle.text.specs.Fields.{decimal_after}
use Rattle.text.proofs.Bounds.{if-some, decimal-after-le}
use Rattle.text.proofs.fields.decimal_after.Goals as goal

value : goal.returns-clause-value
unfolding decimal_after
value c = c.read_after.ensures (decimal_number c.args.most) (λ text n p. search rules)

pub returns-clause-value : goal.returns-clause-value
returns-clause-value = value

pub returns-clause-within : goal.returns-clause-within
returns-clause-within c = if-some c.read_after.result _ (λ f e. decimal-after-le _ _ _ f c.args.most (sym (value c) ∙ e))
