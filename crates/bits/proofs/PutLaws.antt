-- Bytes laid over a part of a list.
use Prim.Native.Nat.{ℕ, ◌+◌, ◌-◌, ◌≤◌}
use mathlib.Core.Path.{◌≡◌, sym, ap}
use mathlib.Core.List.{List, [], ◌++◌, append_assoc}
use native.Mathlib.Nat.{zero-add, add-zero}
use native.Mathlib.Omega.{arith}
use lib.ListN.{length, take, drop, length-append, length-drop, length-take, take-append-drop}
use lib.Seq.{take_at, drop-drop, take-append_seam, drop-append-add}
use borrow.Rule.Slice.PartMut.{put_mid, Post-is}
use Rattle.bits.specs.Put.{put, over_front}

pub length-put : (at : ℕ) (src out : List ℕ) → at + length src ≤ length out → length (put at src out) ≡ length out
unfolding put
length-put at src out h = simp (length-append, length-drop, length-take) (omega arith)

-- a copy into the part of out from index at on, which is as long as what is copied
pub copied_part : (at n : ℕ) (src out last : List ℕ) → n ≡ length src → last ≡ src → put_mid at (at + n - at) out last ≡ put at src out
unfolding put
copied_part at n src out last l e = rw (l, e) (ap (λ r. take at out ++ (src ++ r)) (Post-is at (at + length src) out (omega arith)))

pub put-nothing : (at : ℕ) (out : List ℕ) → out ≡ put at [] out
unfolding put
put-nothing at out = rw (add-zero at) (sym (take-append-drop at out))

pub put_front : (xs out : List ℕ) → put 0 xs out ≡ over_front xs out
unfolding put
put_front xs out = rw zero-add

-- what is laid over a front stands there
pub take-over : (xs out : List ℕ) (n : ℕ) → n ≡ length xs → take n (over_front xs out) ≡ xs
take-over xs out n e = take_at xs (drop (length xs) out) n (sym e)

-- one list after another
pub put_next : (a b out : List ℕ) → put (length a) b (put 0 a out) ≡ put 0 (a ++ b) out
unfolding put
put_next a b out = simp (zero-add, take-append_seam, drop-append-add, drop-drop, length-append, append_assoc)
