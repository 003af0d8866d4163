-- For the contract of unlaid.
use Rattle.std.specs.Prelude.{ℕ, List, Option, Some, None}
use Rattle.tlp.specs.declared.refusal.Refusal.{Refusal}
use Rattle.tlp.specs.declared.refusal.Refusal.TheVariants.{OutputTooShort, BadLine}

-- what there is no room for: bad digits, or the bytes that they spell
abbrev pub unlaid : Option (List ℕ) → Refusal
unlaid None = BadLine
unlaid (Some bytes) = OutputTooShort
