-- Document 01's kind table: the kinds by byte 0, with header size and whether data follows. All to be believed.
use Rattle.std.specs.Prelude.{ℕ, Bool, true, false, ◌&&◌, List, leb, eqb}
use Rattle.bits.specs.Choice.{pick}
use Rattle.bits.specs.Word.{byte}
use Rattle.tlp.specs.declared.packet_type.PacketType.{PacketType}
use Rattle.tlp.specs.declared.packet_type.PacketType.TheVariants.{MRd32, MRd64, MWr32, MWr64, IORd, IOWr, CfgRd0, CfgWr0, CfgRd1, CfgWr1, Msg, MsgD, Cpl, CplD, Unlisted}
use Rattle.tlp.specs.declared.packet_type.Family.{Family}
use Rattle.tlp.specs.declared.packet_type.Family.TheVariants.{Memory, Io, Config, Message, Completion, Unlisted as NoFamily}

-- the column "Byte 0 (hex)"
unfoldable pub type_at : ℕ → PacketType
type_at b =
    pick (eqb b 0x00) MRd32
    (pick (eqb b 0x20) MRd64
    (pick (eqb b 0x40) MWr32
    (pick (eqb b 0x60) MWr64
    (pick (eqb b 0x02) IORd
    (pick (eqb b 0x42) IOWr
    (pick (eqb b 0x04) CfgRd0
    (pick (eqb b 0x44) CfgWr0
    (pick (eqb b 0x05) CfgRd1
    (pick (eqb b 0x45) CfgWr1
    (pick (leb 0x30 b && leb b 0x37) Msg
    (pick (leb 0x70 b && leb b 0x77) MsgD
    (pick (eqb b 0x0A) Cpl
    (pick (eqb b 0x4A) CplD
    Unlisted)))))))))))))

-- the type of a packet's bytes
abbrev pub packet_type_at : List ℕ → PacketType
packet_type_at bytes = type_at (byte bytes 0)

-- the column "Header DW"
abbrev pub header_dw : PacketType → ℕ
header_dw MRd32 = 3
header_dw MRd64 = 4
header_dw MWr32 = 3
header_dw MWr64 = 4
header_dw IORd = 3
header_dw IOWr = 3
header_dw CfgRd0 = 3
header_dw CfgWr0 = 3
header_dw CfgRd1 = 3
header_dw CfgWr1 = 3
header_dw Msg = 4
header_dw MsgD = 4
header_dw Cpl = 3
header_dw CplD = 3
header_dw Unlisted = 0

-- the column "Data"
abbrev pub has_data : PacketType → Bool
has_data MRd32 = false
has_data MRd64 = false
has_data MWr32 = true
has_data MWr64 = true
has_data IORd = false
has_data IOWr = true
has_data CfgRd0 = false
has_data CfgWr0 = true
has_data CfgRd1 = false
has_data CfgWr1 = true
has_data Msg = false
has_data MsgD = true
has_data Cpl = false
has_data CplD = true
has_data Unlisted = false

-- byte 0 as it is written; the routing of a message is added to it
abbrev pub first_byte : PacketType → ℕ
first_byte MRd32 = 0x00
first_byte MRd64 = 0x20
first_byte MWr32 = 0x40
first_byte MWr64 = 0x60
first_byte IORd = 0x02
first_byte IOWr = 0x42
first_byte CfgRd0 = 0x04
first_byte CfgWr0 = 0x44
first_byte CfgRd1 = 0x05
first_byte CfgWr1 = 0x45
first_byte Msg = 0x30
first_byte MsgD = 0x70
first_byte Cpl = 0x0A
first_byte CplD = 0x4A
first_byte Unlisted = 0x00

-- the rules that a type falls under
abbrev pub family_of : PacketType → Family
family_of MRd32 = Memory
family_of MRd64 = Memory
family_of MWr32 = Memory
family_of MWr64 = Memory
family_of IORd = Io
family_of IOWr = Io
family_of CfgRd0 = Config
family_of CfgWr0 = Config
family_of CfgRd1 = Config
family_of CfgWr1 = Config
family_of Msg = Message
family_of MsgD = Message
family_of Cpl = Completion
family_of CplD = Completion
family_of Unlisted = NoFamily

-- "byte 0 is not in the kind table"
abbrev pub is_unlisted : Family → Bool
is_unlisted Memory = false
is_unlisted Io = false
is_unlisted Config = false
is_unlisted Message = false
is_unlisted Completion = false
is_unlisted NoFamily = true

-- memory requests
abbrev pub is_memory : Family → Bool
is_memory Memory = true
is_memory Io = false
is_memory Config = false
is_memory Message = false
is_memory Completion = false
is_memory NoFamily = false

-- I/O and configuration requests
abbrev pub is_io_or_config : Family → Bool
is_io_or_config Memory = false
is_io_or_config Io = true
is_io_or_config Config = true
is_io_or_config Message = false
is_io_or_config Completion = false
is_io_or_config NoFamily = false

-- messages
abbrev pub is_message : Family → Bool
is_message Memory = false
is_message Io = false
is_message Config = false
is_message Message = true
is_message Completion = false
is_message NoFamily = false
