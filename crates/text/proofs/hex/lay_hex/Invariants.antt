use Rattle.std.proofs.Common.{◌≡◌, ◌+◌, ◌*◌, length, drop}
use Rattle.text.specs.Hex.{hex_text}
use Rattle.bits.specs.Put.{put}
use Rattle.text.proofs.hex.lay_hex.Given as goal

abbrev pub invariant-loop-b : goal.invariant-loop-b
invariant-loop-b l = (l.to ≡ l.at + 2 * l.b-index) × ((length l.out ≡ length l.initial.out) × (put l.to (hex_text (drop l.b-index l.bytes)) l.out ≡ put l.at (hex_text l.bytes) l.initial.out))
