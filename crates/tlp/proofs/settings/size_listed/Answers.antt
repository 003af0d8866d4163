use mathlib.Core.Path.{◌∙◌}
use native.Mathlib.Omega.{arith}
use Rattle.tlp.proofs.SettingLaws.{size-between}
use Rattle.tlp.proofs.settings.size_listed.Goals as goal

pub returns-then-matches : goal.returns-then-matches
returns-then-matches c = c.is_power_of_two.ensures ∙ size-between c.args.n (omega arith) (omega arith)
