-- The bases in which numbers are read and printed. To believe: base_value.
use Rattle.std.specs.Prelude.{ℕ}
use Rattle.text.specs.declared.number.Base.{Base}
use Rattle.text.specs.declared.number.Base.TheVariants.{Ten, Sixteen}

abbrev pub base_value : Base → ℕ
base_value Ten = 10
base_value Sixteen = 16
