-- The fixed words of what is printed, in bytes, as document 01's whole case and its kind table spell them: what a
-- reader must believe. Each has its text above it, and the last part compares the two.
use Rattle.std.specs.Prelude.{ℕ, ◌≡◌, refl, List, [], ◌∷◌, map}
use Rattle.text.specs.Letters.{letters_from, letters}
use Rattle.tlp.specs.declared.packet_type.PacketType.{PacketType}
use Rattle.tlp.specs.declared.packet_type.PacketType.TheVariants.{MRd32, MRd64, MWr32, MWr64, IORd, IOWr, CfgRd0, CfgWr0, CfgRd1, CfgWr1, Msg, MsgD, Cpl, CplD, Unlisted}

-- `code=`
abbrev pub code_key : List ℕ
code_key = 99 ∷ 111 ∷ 100 ∷ 101 ∷ 61 ∷ []

-- `code=0 kind=`
abbrev pub accepted_key : List ℕ
accepted_key = 99 ∷ 111 ∷ 100 ∷ 101 ∷ 61 ∷ 48 ∷ 32 ∷ 107 ∷ 105 ∷ 110 ∷ 100 ∷ 61 ∷ []

-- ` tag=`
abbrev pub tag_key : List ℕ
tag_key = 32 ∷ 116 ∷ 97 ∷ 103 ∷ 61 ∷ []

-- ` dw=`
abbrev pub dw_key : List ℕ
dw_key = 32 ∷ 100 ∷ 119 ∷ 61 ∷ []

-- `lines=`
abbrev pub lines_key : List ℕ
lines_key = 108 ∷ 105 ∷ 110 ∷ 101 ∷ 115 ∷ 61 ∷ []

-- ` refused=`
abbrev pub refused_key : List ℕ
refused_key = 32 ∷ 114 ∷ 101 ∷ 102 ∷ 117 ∷ 115 ∷ 101 ∷ 100 ∷ 61 ∷ []

-- `\n`
abbrev pub newline : List ℕ
newline = 10 ∷ []

-- the kind table's word, as its name is spelled here
abbrev pub kind_word : PacketType → List ℕ
kind_word MRd32 = 77 ∷ 82 ∷ 100 ∷ 51 ∷ 50 ∷ []
kind_word MRd64 = 77 ∷ 82 ∷ 100 ∷ 54 ∷ 52 ∷ []
kind_word MWr32 = 77 ∷ 87 ∷ 114 ∷ 51 ∷ 50 ∷ []
kind_word MWr64 = 77 ∷ 87 ∷ 114 ∷ 54 ∷ 52 ∷ []
kind_word IORd = 73 ∷ 79 ∷ 82 ∷ 100 ∷ []
kind_word IOWr = 73 ∷ 79 ∷ 87 ∷ 114 ∷ []
kind_word CfgRd0 = 67 ∷ 102 ∷ 103 ∷ 82 ∷ 100 ∷ 48 ∷ []
kind_word CfgWr0 = 67 ∷ 102 ∷ 103 ∷ 87 ∷ 114 ∷ 48 ∷ []
kind_word CfgRd1 = 67 ∷ 102 ∷ 103 ∷ 82 ∷ 100 ∷ 49 ∷ []
kind_word CfgWr1 = 67 ∷ 102 ∷ 103 ∷ 87 ∷ 114 ∷ 49 ∷ []
kind_word Msg = 77 ∷ 115 ∷ 103 ∷ []
kind_word MsgD = 77 ∷ 115 ∷ 103 ∷ 68 ∷ []
kind_word Cpl = 67 ∷ 112 ∷ 108 ∷ []
kind_word CplD = 67 ∷ 112 ∷ 108 ∷ 68 ∷ []
kind_word Unlisted = []

-- what is printed
pub output-spelled : map letters ("code=" ∷ "code=0 kind=" ∷ " tag=" ∷ " dw=" ∷ "lines=" ∷ " refused=" ∷ "\n" ∷ [])
    ≡ code_key ∷ accepted_key ∷ tag_key ∷ dw_key ∷ lines_key ∷ refused_key ∷ newline ∷ []
unfolding letters_from
output-spelled = refl

-- the kinds' words
pub kinds-spelled : map letters ("MRd32" ∷ "MRd64" ∷ "MWr32" ∷ "MWr64" ∷ "IORd" ∷ "IOWr" ∷ "CfgRd0" ∷ "CfgWr0" ∷ "CfgRd1" ∷ "CfgWr1" ∷ "Msg" ∷ "MsgD" ∷ "Cpl" ∷ "CplD" ∷ "" ∷ [])
    ≡ map kind_word (MRd32 ∷ MRd64 ∷ MWr32 ∷ MWr64 ∷ IORd ∷ IOWr ∷ CfgRd0 ∷ CfgWr0 ∷ CfgRd1 ∷ CfgWr1 ∷ Msg ∷ MsgD ∷ Cpl ∷ CplD ∷ Unlisted ∷ [])
unfolding letters_from
kinds-spelled = refl
