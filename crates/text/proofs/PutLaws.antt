-- Bytes laid over a part of an output, one after another from either end.
use Rattle.std.proofs.Common.{◌≡◌, ℕ, suc, ◌+◌, ◌-◌, ◌<◌, ◌≤◌, Bool, true, false, not, leb, List, [], ◌∷◌, ◌++◌, length, get_or, take, drop, set, sym, ◌∙◌, append_assoc, add-zero, add_assoc, add-suc, suc-add, add-one, arith, length-append, take-append-drop, drop_of_length-le, drop-cons, get_or-set_same, take-suc-set, drop-set-lt, lt-length-set, leb-true}
use lib.Seq.{take-set-le}
use borrow.Author.Tests.{lt-leb, not-true, not-false}
use Rattle.text.proofs.Order.{leb-iff}
use Rattle.bits.specs.Put.{put}
use Rattle.text.specs.Laid.{laid, after}

-- room for a sum

pub room-past : (at n len : ℕ) → len < at → false ≡ leb (at + n) len
room-past at n len h = sym (lt-leb (at + n) len (omega arith))

pub room-left : (at n len : ℕ) → at ≤ len → leb n (len - at) ≡ leb (at + n) len
room-left at n len h = leb-iff n (len - at) (at + n) len (λ k. omega arith) (λ k. omega arith)

pub ruleset room-laws = (room-past, room-left)

pub room-holds : (r : Bool) (at n len : ℕ) → r ≡ leb (at + n) len → not r ≡ false → at + n ≤ len
room-holds r at n len e h = leb-true (at + n) len (sym e ∙ not-false r h)

-- nothing left to lay
pub put-done : (at : ℕ) (out : List ℕ) → put at [] out ≡ out
unfolding put
put-done at out = rw (add-zero at) (take-append-drop at out)

-- the first byte laid, the rest over what that gives
pub put_first : (at d : ℕ) (src out : List ℕ) → at < length out → put (at + 1) src (set out at d) ≡ put at (d ∷ src) out
unfolding put
put_first at d src out h =
    rw (add-one at, take-suc-set out at d h, drop-set-lt (suc at + length src) out at d (omega arith), suc-add, add-suc) (append_assoc (take at out) (d ∷ []) (src ++ drop (suc (at + length src)) out))

-- the last byte laid, those before it over what that gives
pub put_last : (at d : ℕ) (src out : List ℕ) → at + length src < length out → put at src (set out (at + length src) d) ≡ put at (src ++ (d ∷ [])) out
unfolding put
put_last at d src out h =
    let n = at + length src in
    let e : drop n (set out n d) ≡ d ∷ drop (suc n) out = rw (drop-cons (set out n d) n 0 (lt-length-set out n d h), get_or-set_same out n d 0 h, drop-set-lt (suc n) out n d (omega arith)) in
    rw (take-set-le at out n d (omega arith), e, length-append src (d ∷ []), ← add_assoc at (length src) 1, add-one n, append_assoc src (d ∷ []) (drop (suc n) out))

-- a text of which the code has laid the first i bytes

module _ (at i : ℕ) (text out whole : List ℕ) (q : put (at + i) (drop i text) out ≡ whole) where
  pub copy_done : length text ≤ i → out ≡ whole
  copy_done l = sym (put-done (at + i) out) ∙ (rw (drop_of_length-le text l) at q)

  pub copy-next : (out₀ : List ℕ) → i < length text → at + length text ≤ length out₀ → length out ≡ length out₀
      → put (at + (i + 1)) (drop (i + 1) text) (set out (at + i) (get_or text i 0)) ≡ whole
  copy-next out₀ h l z =
      rw (← add_assoc at i 1, add-one i, put_first (at + i) (get_or text i 0) (drop (suc i) text) out (omega arith), ← drop-cons text i 0 h) q

pub copy_start : (at : ℕ) (text out : List ℕ) → put (at + 0) text out ≡ put at text out
copy_start at text out = rw (add-zero at)

pub ruleset copy-laws = (copy_done, copy-next, copy_start)

-- one law for each return of a function that lays a text of length n where it fits

module _ (at n : ℕ) (src out : List ℕ) (e : n ≡ length src) (r : Bool) (f : r ≡ leb (at + n) (length out)) where
  pub after_none : not r ≡ true → at ≡ after at src out
  unfolding after
  after_none h = rw (← e, ← f, not-true r h)

  pub laid_none : not r ≡ true → out ≡ laid at src out
  unfolding laid
  laid_none h = rw (← e, ← f, not-true r h)

  pub after-whole : (q : ℕ) → not r ≡ false → q ≡ at + n → q ≡ after at src out
  unfolding after
  after-whole q h k = rw (← e, ← f, not-false r h) k

  pub laid-whole : (last : List ℕ) → not r ≡ false → last ≡ put at src out → last ≡ laid at src out
  unfolding laid
  laid-whole last h q = rw (← e, ← f, not-false r h) q

pub ruleset laid-laws = (after_none, laid_none, after-whole, laid-whole)
