-- However read cuts the input into blocks, the texts that the program lays for printing, turn by turn and at the end,
-- are the decoding of the whole when joined; and after a failure the end's is empty: theorems, proved in
-- proofs/PrintsDecoding, of which nothing is to be believed but printed, end_text, joined and decode_text. That lay_read
-- and lay_end lay these texts, and give the runs to go on with, is by their contracts; that print hands each to the
-- system, once and in turn, is by its code of a few lines and main's.
use Rattle.std.specs.Prelude.{ℕ, ◌≡◌, List, []}
use Rattle.capture_decode.specs.Decode.{decode_text}
use Rattle.capture_blocks.specs.Blocks.{joined}
use Rattle.decode.specs.Turns.{stopped_run, end_text, printed}

-- also where the program does not read on: "A bad, missing or unended first line gives only `code=11`"
abbrev pub PrintsDecoding : Type 0
PrintsDecoding = (blocks : List (List ℕ)) → printed blocks ≡ decode_text (joined blocks)

-- a read or a write failed
abbrev pub StopsPrinting : Type 0
StopsPrinting = (kept : List ℕ) → end_text stopped_run kept ≡ []
