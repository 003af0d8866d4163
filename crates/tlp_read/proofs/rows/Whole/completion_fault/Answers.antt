use mathlib.Core.Path.{refl}
use Rattle.tlp_read.proofs.ReadReturns.{completion-rows}
use Rattle.tlp.proofs.RefusalLaws.{through}
use Rattle.tlp_read.proofs.rows.Whole.completion_fault.Goals as goal

pub returns : goal.returns
returns c = through _ _ _ _ c.payload_fault.ensures (completion-rows _ _ _ _ c.requires refl)
