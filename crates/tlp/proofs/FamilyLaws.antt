-- The types of a family: what holds of each of them holds of any type of the family.
use Prim.Native.Nat.{ℕ}
use mathlib.Core.Path.{◌≡◌, refl, sym, ap, ◌∙◌}
use mathlib.Core.Bool.{false, true≢false}
use lib.Dec.{eqb}
use borrow.Author.Tests.{eq-eqb}
use Rattle.tlp.specs.PacketTypes.{family_of}
use Rattle.tlp.specs.declared.packet_type.Family.{Family}
use Rattle.tlp.specs.declared.packet_type.Family.TheVariants.{Memory, Io, Config, Message, Completion, Unlisted as NoFamily}
use Rattle.tlp.specs.declared.packet_type.PacketType.{PacketType}
use Rattle.tlp.specs.declared.packet_type.PacketType.TheVariants.{MRd32, MRd64, MWr32, MWr64, IORd, IOWr, CfgRd0, CfgWr0, CfgRd1, CfgWr1, Msg, MsgD, Cpl, CplD, Unlisted}

abbrev pub place : Family → ℕ
place Memory = 0
place Io = 1
place Config = 2
place Message = 3
place Completion = 4
place NoFamily = 5

-- two families that are not the same
pub other : {A : Type 0} (f g : Family) → eqb (place f) (place g) ≡ false → f ≡ g → A
other f g e h = absurd (true≢false (sym (eq-eqb (place f) (place g) (ap place h)) ∙ e))

-- by all types of one family g, the rest by g's place
pub memory-types : (P : PacketType → Type 0) → P MRd32 → P MRd64 → P MWr32 → P MWr64 → (t : PacketType) → family_of t ≡ Memory → P t
memory-types P a b c d MRd32 h = a
memory-types P a b c d MRd64 h = b
memory-types P a b c d MWr32 h = c
memory-types P a b c d MWr64 h = d
memory-types P a b c d IORd h = other Io Memory refl h
memory-types P a b c d IOWr h = other Io Memory refl h
memory-types P a b c d CfgRd0 h = other Config Memory refl h
memory-types P a b c d CfgWr0 h = other Config Memory refl h
memory-types P a b c d CfgRd1 h = other Config Memory refl h
memory-types P a b c d CfgWr1 h = other Config Memory refl h
memory-types P a b c d Msg h = other Message Memory refl h
memory-types P a b c d MsgD h = other Message Memory refl h
memory-types P a b c d Cpl h = other Completion Memory refl h
memory-types P a b c d CplD h = other Completion Memory refl h
memory-types P a b c d Unlisted h = other NoFamily Memory refl h

pub io-types : (P : PacketType → Type 0) → P IORd → P IOWr → (t : PacketType) → family_of t ≡ Io → P t
io-types P a b IORd h = a
io-types P a b IOWr h = b
io-types P a b MRd32 h = other Memory Io refl h
io-types P a b MRd64 h = other Memory Io refl h
io-types P a b MWr32 h = other Memory Io refl h
io-types P a b MWr64 h = other Memory Io refl h
io-types P a b CfgRd0 h = other Config Io refl h
io-types P a b CfgWr0 h = other Config Io refl h
io-types P a b CfgRd1 h = other Config Io refl h
io-types P a b CfgWr1 h = other Config Io refl h
io-types P a b Msg h = other Message Io refl h
io-types P a b MsgD h = other Message Io refl h
io-types P a b Cpl h = other Completion Io refl h
io-types P a b CplD h = other Completion Io refl h
io-types P a b Unlisted h = other NoFamily Io refl h

pub config-types : (P : PacketType → Type 0) → P CfgRd0 → P CfgWr0 → P CfgRd1 → P CfgWr1 → (t : PacketType) → family_of t ≡ Config → P t
config-types P a b c d CfgRd0 h = a
config-types P a b c d CfgWr0 h = b
config-types P a b c d CfgRd1 h = c
config-types P a b c d CfgWr1 h = d
config-types P a b c d MRd32 h = other Memory Config refl h
config-types P a b c d MRd64 h = other Memory Config refl h
config-types P a b c d MWr32 h = other Memory Config refl h
config-types P a b c d MWr64 h = other Memory Config refl h
config-types P a b c d IORd h = other Io Config refl h
config-types P a b c d IOWr h = other Io Config refl h
config-types P a b c d Msg h = other Message Config refl h
config-types P a b c d MsgD h = other Message Config refl h
config-types P a b c d Cpl h = other Completion Config refl h
config-types P a b c d CplD h = other Completion Config refl h
config-types P a b c d Unlisted h = other NoFamily Config refl h

pub message-types : (P : PacketType → Type 0) → P Msg → P MsgD → (t : PacketType) → family_of t ≡ Message → P t
message-types P a b Msg h = a
message-types P a b MsgD h = b
message-types P a b MRd32 h = other Memory Message refl h
message-types P a b MRd64 h = other Memory Message refl h
message-types P a b MWr32 h = other Memory Message refl h
message-types P a b MWr64 h = other Memory Message refl h
message-types P a b IORd h = other Io Message refl h
message-types P a b IOWr h = other Io Message refl h
message-types P a b CfgRd0 h = other Config Message refl h
message-types P a b CfgWr0 h = other Config Message refl h
message-types P a b CfgRd1 h = other Config Message refl h
message-types P a b CfgWr1 h = other Config Message refl h
message-types P a b Cpl h = other Completion Message refl h
message-types P a b CplD h = other Completion Message refl h
message-types P a b Unlisted h = other NoFamily Message refl h

pub completion-types : (P : PacketType → Type 0) → P Cpl → P CplD → (t : PacketType) → family_of t ≡ Completion → P t
completion-types P a b Cpl h = a
completion-types P a b CplD h = b
completion-types P a b MRd32 h = other Memory Completion refl h
completion-types P a b MRd64 h = other Memory Completion refl h
completion-types P a b MWr32 h = other Memory Completion refl h
completion-types P a b MWr64 h = other Memory Completion refl h
completion-types P a b IORd h = other Io Completion refl h
completion-types P a b IOWr h = other Io Completion refl h
completion-types P a b CfgRd0 h = other Config Completion refl h
completion-types P a b CfgWr0 h = other Config Completion refl h
completion-types P a b CfgRd1 h = other Config Completion refl h
completion-types P a b CfgWr1 h = other Config Completion refl h
completion-types P a b Msg h = other Message Completion refl h
completion-types P a b MsgD h = other Message Completion refl h
completion-types P a b Unlisted h = other NoFamily Completion refl h
