-- Document 01: "A tag's record is whether it is open and, if so, p and what open got": a read, or none. To be
-- believed.
use Rattle.std.specs.Prelude.{Bool, Option, is_some}
use Rattle.reads_rules.specs.declared.read.Read.{Read}

-- whether a record holds a read
abbrev pub is_open : Option Read → Bool
is_open x = is_some x
