-- The keys of captures, in bytes, as document 01 spells them: what a reader must believe. Each has its text above it,
-- and the last part compares the two.
use Rattle.std.specs.Prelude.{ℕ, ◌≡◌, refl, List, [], ◌∷◌, map}
use Rattle.text.specs.Letters.{letters_from, letters}

-- `mps=`
abbrev pub mps_key : List ℕ
mps_key = 109 ∷ 112 ∷ 115 ∷ 61 ∷ []

-- ` mrrs=`
abbrev pub mrrs_key : List ℕ
mrrs_key = 32 ∷ 109 ∷ 114 ∷ 114 ∷ 115 ∷ 61 ∷ []

-- ` rcb=`
abbrev pub rcb_key : List ℕ
rcb_key = 32 ∷ 114 ∷ 99 ∷ 98 ∷ 61 ∷ []

-- ` req=`
abbrev pub requester_key : List ℕ
requester_key = 32 ∷ 114 ∷ 101 ∷ 113 ∷ 61 ∷ []

-- `at=`
abbrev pub at_key : List ℕ
at_key = 97 ∷ 116 ∷ 61 ∷ []

-- ` dir=rx`
abbrev pub rx_key : List ℕ
rx_key = 32 ∷ 100 ∷ 105 ∷ 114 ∷ 61 ∷ 114 ∷ 120 ∷ []

-- ` dir=tx`
abbrev pub tx_key : List ℕ
tx_key = 32 ∷ 100 ∷ 105 ∷ 114 ∷ 61 ∷ 116 ∷ 120 ∷ []

-- ` len=`
abbrev pub length_key : List ℕ
length_key = 32 ∷ 108 ∷ 101 ∷ 110 ∷ 61 ∷ []

-- ` tlp=`
abbrev pub packet_key : List ℕ
packet_key = 32 ∷ 116 ∷ 108 ∷ 112 ∷ 61 ∷ []

-- line one
pub header-spelled : map letters ("mps=" ∷ " mrrs=" ∷ " rcb=" ∷ " req=" ∷ []) ≡ mps_key ∷ mrrs_key ∷ rcb_key ∷ requester_key ∷ []
unfolding letters_from
header-spelled = refl

-- the lines after it
pub packet-spelled : map letters ("at=" ∷ " dir=rx" ∷ " dir=tx" ∷ " len=" ∷ " tlp=" ∷ []) ≡ at_key ∷ rx_key ∷ tx_key ∷ length_key ∷ packet_key ∷ []
unfolding letters_from
packet-spelled = refl
