-- However an input is cut into blocks, their outputs joined are the decoding of the whole: a theorem, proved in
-- proofs/EveryCutting, of which nothing is to be believed but run_blocks, joined and decode_text.
use Rattle.std.specs.Prelude.{ℕ, ◌≡◌, List}
use Rattle.capture_decode.specs.Decode.{decode_text}
use Rattle.capture_blocks.specs.Blocks.{run_blocks, joined}

-- the theorem
abbrev pub EveryCutting : Type 0
EveryCutting = (blocks : List (List ℕ)) → run_blocks blocks ≡ decode_text (joined blocks)
