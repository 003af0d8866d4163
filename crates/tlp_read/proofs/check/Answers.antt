use Rattle.tlp_read.proofs.ReadReturns.{number-laws}
use Rattle.tlp.proofs.RefusalLaws.{refused, through}
use Rattle.tlp_read.proofs.check.Goals as goal

pub returns-then-not-settings_listed : goal.returns-then-not-settings_listed
returns-then-not-settings_listed c = search (number-laws, refused)

pub returns-then-bytes-lt12 : goal.returns-then-bytes-lt12
returns-then-bytes-lt12 c = search (number-laws, refused)

pub returns : goal.returns
returns c = search (number-laws, through)
