-- Numbers of several bytes: "Multi-byte fields have the high byte first." All to be believed, but `whole_word`, which
-- serves only quick reading.
use Rattle.std.specs.Prelude.{ℕ, zero, suc, ◌+◌, ◌*◌, ◌/◌, ◌%◌, ◌^◌, ◌<◌, List, [], ◌∷◌, leb, get_or, length}
use Rattle.bits.specs.Choice.{pick}

-- the byte at place i; 0 past the end
abbrev pub byte : List ℕ → ℕ → ℕ
byte src i = get_or src i 0

-- the number in the k bytes from place i on
abbrev pub word : ℕ → List ℕ → ℕ → ℕ
word zero src i = 0
word (suc k) src i = byte src i * 256 ^ k + word k src (i + 1)

-- the same, and 0 where not all of the k bytes are there
abbrev pub whole_word : ℕ → List ℕ → ℕ → ℕ
whole_word k src i = pick (leb (i + k) (length src)) (word k src i) 0

-- the k bytes of the number x
abbrev pub bytes : ℕ → ℕ → List ℕ
bytes zero x = []
bytes (suc k) x = (x / 256 ^ k % 256) ∷ bytes k x

-- a list of bytes: a place past the end reads as 0
abbrev pub Bytes : List ℕ → Type 0
Bytes xs = (i : ℕ) → byte xs i < 256
