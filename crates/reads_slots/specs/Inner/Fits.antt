-- When a record comes back as it was put. No function states it: the laws of the records are of such ones.
use Rattle.std.specs.Prelude.{◌≡◌, Option, Some}
use Rattle.reads_rules.specs.declared.read.Read.{Read}
use Rattle.reads_words.specs.Inner.Fits.{Fits}

-- the read of an open record has fields that fit their types; a free one has none
abbrev pub FitsIn : Option Read → Type 0
FitsIn x = (r : Read) → x ≡ Some r → Fits r.request
