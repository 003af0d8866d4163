-- Serves the contract of `packet_type::family_by_type`.
use Rattle.std.specs.Prelude.{ℕ, eqb}
use Rattle.bits.specs.Choice.{pick}
use Rattle.tlp.specs.declared.packet_type.Family.{Family}
use Rattle.tlp.specs.declared.packet_type.Family.TheVariants.{Memory, Io, Config, Message, Completion}

-- the family by Type 4:0 alone, for a type in the table
abbrev pub family_by_type : ℕ → Family
family_by_type n =
    pick (eqb n 0) Memory
    (pick (eqb n 2) Io
    (pick (eqb n 4) Config
    (pick (eqb n 5) Config
    (pick (eqb n 10) Completion
    Message))))
