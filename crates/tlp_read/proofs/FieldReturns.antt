-- The last four bytes, as the slice from their place on.
use Rattle.std.proofs.Common.{◌≡◌, ◌∙◌, sym, ap, ℕ, ◌-◌, List, length, take, drop}
use native.Mathlib.Nat.{le_of_eq}
use lib.ListN.{length-drop}
use lib.Seq.{take_all}
use Rattle.bits.specs.Word.{word}

pub trailing-part : (bytes : List ℕ) (r p k : ℕ) → p ≡ length bytes - 4 → k ≡ length bytes - p → r ≡ word 4 (take k (drop p bytes)) 0 → r ≡ word 4 (drop (length bytes - 4) bytes) 0
trailing-part bytes r p k d q e = e ∙ ap (λ (l : List ℕ). word 4 l 0) (take_all k (drop p bytes) (le_of_eq (length-drop p bytes ∙ sym q))) ∙ ap (λ (i : ℕ). word 4 (drop i bytes) 0) d
