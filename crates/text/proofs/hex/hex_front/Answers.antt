use Rattle.text.proofs.HexLaws.{front-laws, front-half, all-good}
use Rattle.std.proofs.Common.{rules}
use Rattle.text.proofs.hex.hex_front.Goals as goal
use Rattle.text.proofs.hex.hex_front.Goals.{then-text-ne0-via-then-text-ne0, then-text-ne0-via-else-text-ne0+then-not-hex_only}

pub returns-then-text-ne0 : goal.returns-then-text-ne0
returns-then-text-ne0 c =
    elim c.then-text-ne0.branch [
      | then-text-ne0-via-then-text-ne0 w ↦ record { value = search front-laws; out_after = search front-laws }
      | then-text-ne0-via-else-text-ne0+then-not-hex_only w ↦ record { value = search front-laws; out_after = search front-laws }
    ]

pub returns-then-out-n : goal.returns-then-out-n
returns-then-out-n c = record { value = search front-laws; out_after = search front-laws }

pub lay_bytes-requires : goal.lay_bytes-requires
lay_bytes-requires c = (search front-half, (search rules, search all-good))

pub returns : goal.returns
returns c = record { value = search front-laws; out_after = search front-laws }
