-- Bytes laid over a part of an output, where they fit. To believe: laid, after, fits.
use Rattle.std.specs.Prelude.{ℕ, ◌+◌, Bool, List, length, nat_le}
use Rattle.bits.specs.Choice.{pick}
use Rattle.bits.specs.Put.{put}

-- whether src fits into out from index at on
abbrev pub fits : ℕ → List ℕ → List ℕ → Bool
fits at src out = nat_le (at + length src) (length out)

-- the output afterwards: unchanged where src does not fit
unfoldable pub laid : ℕ → List ℕ → List ℕ → List ℕ
laid at src out = pick (fits at src out) (put at src out) out

-- the index after src, or at where it does not fit
unfoldable pub after : ℕ → List ℕ → List ℕ → ℕ
after at src out = pick (fits at src out) (at + length src) at
