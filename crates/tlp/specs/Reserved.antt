-- Document 01: "Reserved are all bits not named above; Length in Msg and Cpl; AT and TH in messages and completions; TH
-- and Attr[2] in I/O and configuration." A mask for each byte of a header, in which a set bit is one that is not
-- reserved. All to be believed.
use Rattle.std.specs.Prelude.{ℕ, List, [], ◌∷◌, ◌++◌}
use Rattle.std.specs.Int.Bits.{bit_and}
use Rattle.tlp.specs.PacketTypes.{packet_type_at}
use Rattle.tlp.specs.declared.packet_type.PacketType.{PacketType}
use Rattle.tlp.specs.declared.packet_type.PacketType.TheVariants.{MRd32, MRd64, MWr32, MWr64, IORd, IOWr, CfgRd0, CfgWr0, CfgRd1, CfgWr1, Msg, MsgD, Cpl, CplD, Unlisted}

-- bytes 0 to 3 of memory requests: TC, Attr[2] and TH; TD, EP, Attr, AT and Length
abbrev pub memory_front : List ℕ
memory_front = 0xFF ∷ 0x75 ∷ 0xFF ∷ 0xFF ∷ []

-- of I/O and configuration requests: TC; TD, EP, Attr, AT and Length
abbrev pub plain_front : List ℕ
plain_front = 0xFF ∷ 0x70 ∷ 0xFF ∷ 0xFF ∷ []

-- of MsgD and CplD: TC and Attr[2]; TD, EP, Attr and Length
abbrev pub data_front : List ℕ
data_front = 0xFF ∷ 0x74 ∷ 0xF3 ∷ 0xFF ∷ []

-- of Msg and Cpl: TC and Attr[2]; TD, EP and Attr
abbrev pub bare_front : List ℕ
bare_front = 0xFF ∷ 0x74 ∷ 0xF0 ∷ 0x00 ∷ []

-- four bytes with no reserved bit
abbrev pub whole : List ℕ
whole = 0xFF ∷ 0xFF ∷ 0xFF ∷ 0xFF ∷ []

-- the last four bytes of an address: "its low two bits reserved"
abbrev pub address_end : List ℕ
address_end = 0xFF ∷ 0xFF ∷ 0xFF ∷ 0xFC ∷ []

-- target ID, extended register in 3:0, register in 7:2
abbrev pub config_end : List ℕ
config_end = 0xFF ∷ 0xFF ∷ 0x0F ∷ 0xFC ∷ []

-- requester ID, tag, Lower Address in 6:0
abbrev pub completion_end : List ℕ
completion_end = 0xFF ∷ 0xFF ∷ 0xFF ∷ 0x7F ∷ []

-- the masks of a header's bytes
abbrev pub masks : PacketType → List ℕ
masks MRd32 = memory_front ++ (whole ++ address_end)
masks MRd64 = memory_front ++ (whole ++ (whole ++ address_end))
masks MWr32 = memory_front ++ (whole ++ address_end)
masks MWr64 = memory_front ++ (whole ++ (whole ++ address_end))
masks IORd = plain_front ++ (whole ++ address_end)
masks IOWr = plain_front ++ (whole ++ address_end)
masks CfgRd0 = plain_front ++ (whole ++ config_end)
masks CfgWr0 = plain_front ++ (whole ++ config_end)
masks CfgRd1 = plain_front ++ (whole ++ config_end)
masks CfgWr1 = plain_front ++ (whole ++ config_end)
masks Msg = bare_front ++ (whole ++ (whole ++ whole))
masks MsgD = data_front ++ (whole ++ (whole ++ whole))
masks Cpl = bare_front ++ (whole ++ completion_end)
masks CplD = data_front ++ (whole ++ completion_end)
masks Unlisted = []

-- bytes under masks; bytes past the masks stay
abbrev pub masked : List ℕ → List ℕ → List ℕ
masked [] bs = bs
masked (m ∷ ms) [] = []
masked (m ∷ ms) (b ∷ bs) = bit_and b m ∷ masked ms bs

-- a packet's bytes with its header's reserved bits cleared
unfoldable pub clear_reserved : List ℕ → List ℕ
clear_reserved bytes = masked (masks (packet_type_at bytes)) bytes
