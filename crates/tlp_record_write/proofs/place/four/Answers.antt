use Rattle.bits.proofs.WordLaws.{word_split}
use native.Mathlib.Omega.{arith}
use Rattle.tlp_record_write.proofs.place.four.Goals as goal

pub returns : goal.returns
returns c =
    let a = c.args in
    omega (arith, word_split 2 2 a.«record».now a.i)
