-- Bytes that move to the front of their own buffer.
use Rattle.std.proofs.Common.{◌≡◌, ℕ, ◌+◌, ◌-◌, ◌≤◌, min, List, ◌++◌, length, take, drop, sym, ap, ◌∙◌, arith, length-drop, length-take-le, take-add, drop_at}
use native.Mathlib.Nat.{sub-zero}
use Rattle.std.specs.List.{copy_within}
use Rattle.bits.specs.Put.{put}
use Rattle.text.specs.Buffer.{moved_to_front}
use Rattle.text.specs.Words.{part}
use Rattle.text.proofs.LaidLaws.{front-put}
use Rattle.text.proofs.WordLaws.{clipped}

pub moved : (from to e a : ℕ) (buf last : List ℕ) → e ≡ min to (length buf) → a ≡ min from e → last ≡ copy_within buf a e 0 → last ≡ moved_to_front from to buf
unfolding moved_to_front put
moved from to e a buf last f g q =
    let n : length (take (e - a) (drop a buf)) ≡ e - a = length-take-le (e - a) (drop a buf) (rw (length-drop a buf) (omega arith)) in
    q ∙ rw (← clipped buf from to e a f g, n)

-- ---- the front afterwards: what stood there behind the first bytes, which are gone

pub front-moved : (from to : ℕ) (buf : List ℕ) → from ≤ to → to ≤ length buf → part (moved_to_front from to buf) 0 (to - from) ≡ drop from (part buf 0 to)
unfolding moved_to_front
front-moved from to buf h k =
    let n = to - from in
    let size : length (take n (drop from buf)) ≡ n = length-take-le n (drop from buf) (rw (length-drop from buf) (omega arith)) in
    let whole : to ≡ from + n = omega arith in
    let split : take to buf ≡ take from buf ++ take n (drop from buf) = ap (λ (m : ℕ). take m buf) whole ∙ take-add from n buf in
    ap (λ (m : ℕ). part (put 0 (take n (drop from buf)) buf) 0 m) (sym size) ∙ front-put (take n (drop from buf)) buf
    ∙ sym (rw (sub-zero to, split) (drop_at (take from buf) (take n (drop from buf)) from (length-take-le from buf (omega arith))))
