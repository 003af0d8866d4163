-- Texts laid one after another are one text laid, where there is room for all of them; and how long printed numbers are.
use Rattle.std.proofs.Common.{◌≡◌, ℕ, zero, suc, ◌+◌, ◌-◌, ◌/◌, ◌≤◌, Bool, true, false, ltb, leb, List, [], ◌∷◌, ◌++◌, length, take, drop, set, sym, refl, ◌∙◌, suc-le-suc, zero-le, le_refl, add-zero, add_assoc, add-suc, suc-add, zero-add, add-one, arith, length-append, length-set, le-leb}
use native.Mathlib.Nat.{sub-zero}
use lib.Seq.{take-append_seam}
use Rattle.bits.specs.Choice.{pick}
use Rattle.bits.specs.Put.{put}
use Rattle.text.specs.Laid.{laid, after}
use Rattle.text.specs.Number.{count_to, digit_count, plain_text}
use Rattle.text.specs.Words.{part}
use Rattle.text.proofs.PutLaws.{put-done, put_first}
use Rattle.text.proofs.NumberLaws.{length_digits}
use Rattle.text.proofs.Bounds.{length-laid}

-- ---- a text, and one after it

-- t over what text gave, from the index after text on
pub put_next : (at : ℕ) (text t out : List ℕ) → at + length text ≤ length out → put (at + length text) t (put at text out) ≡ put at (text ++ t) out
put_next at [] t out h = rw (add-zero at, put-done at out)
put_next at (d ∷ text) t out h =
    rw (
      ← put_first at d text out (omega arith),
      ← put_first at d (text ++ t) out (omega arith),
      ← put_next (at + 1) text t (set out at d) (rw (length-set out at d) (omega arith)),
      add-one at,
      suc-add at (length text),
      add-suc at (length text),
    )

module _ (at : ℕ) (text out : List ℕ) (h : at + length text ≤ length out) where
  pub after-fits : after at text out ≡ at + length text
  unfolding after
  after-fits = rw (le-leb (at + length text) (length out) h)

  pub laid-fits : laid at text out ≡ put at text out
  unfolding laid
  laid-fits = rw (le-leb (at + length text) (length out) h)

-- the index a and the output l after text, where t fits too
module _ (at : ℕ) (text t out : List ℕ) (h : at + length (text ++ t) ≤ length out) (a : ℕ) (l : List ℕ) (e : a ≡ after at text out) (f : l ≡ laid at text out) where
  fits-first : at + length text ≤ length out
  fits-first = omega (arith, length-append text t)

  pub fits_next : a + length t ≤ length l
  fits_next = rw (e, f, length-laid at text out, after-fits at text out fits-first) (omega (arith, length-append text t))

  pub after_next : (b : ℕ) → b ≡ after a t l → b ≡ after at (text ++ t) out
  after_next b g =
      g ∙ after-fits a t l fits_next
      ∙ rw (e, after-fits at text out fits-first, after-fits at (text ++ t) out h, length-append text t) (add_assoc at (length text) (length t))

  pub laid_next : (m : List ℕ) → m ≡ laid a t l → m ≡ laid at (text ++ t) out
  laid_next m g =
      g ∙ laid-fits a t l fits_next
      ∙ rw (e, f, after-fits at text out fits-first, laid-fits at text out fits-first, laid-fits at (text ++ t) out h) (put_next at text t out fits-first)

-- nothing laid

pub after_nothing : (at : ℕ) (out : List ℕ) → at ≡ after at [] out
unfolding after
after_nothing at out = nothing-by (leb (at + 0) (length out))
  where
    nothing-by : (t : Bool) → at ≡ pick t (at + 0) at
    nothing-by true = sym (add-zero at)
    nothing-by false = refl

pub laid-nothing : (at : ℕ) (out : List ℕ) → out ≡ laid at [] out
unfolding laid
laid-nothing at out = rw (put-done at out) (nothing-by (leb (at + 0) (length out)))
  where
    nothing-by : (t : Bool) → out ≡ pick t out out
    nothing-by true = refl
    nothing-by false = refl

-- ---- the text that was laid at the front of a line

pub front-put : (text out : List ℕ) → part (put 0 text out) 0 (length text) ≡ text
unfolding put
front-put text out = rw (zero-add (length text), sub-zero (length text)) (take-append_seam text (drop (length text) out))

-- what the front of the line l holds afterwards, up to the index n after it
pub front-laid : (text l₀ l : List ℕ) (n : ℕ) → 0 + length text ≤ length l₀ → n ≡ after 0 text l₀ → l ≡ laid 0 text l₀ → take (n - 0) (drop 0 l) ≡ text
front-laid text l₀ l n h e f = rw (e, f, after-fits 0 text l₀ h, laid-fits 0 text l₀ h, zero-add (length text)) (front-put text l₀)

-- that text laid into an output, by way of the part w of the line
module _ (text l₀ l : List ℕ) (n : ℕ) (h : 0 + length text ≤ length l₀) (e : n ≡ after 0 text l₀) (f : l ≡ laid 0 text l₀) (w : List ℕ) (g : w ≡ take (n - 0) (drop 0 l)) (at : ℕ) (out : List ℕ) where
  pub line_after : (r : ℕ) → r ≡ after at w out → r ≡ after at text out
  line_after r q = rw (g, front-laid text l₀ l n h e f) at q

  pub line-laid : (r : List ℕ) → r ≡ laid at w out → r ≡ laid at text out
  line-laid r q = rw (g, front-laid text l₀ l n h e f) at q

pub ruleset line-laws = (line_after, line-laid)

-- ---- how long a number is

pub count_most : (base k n : ℕ) → count_to base k n ≤ k
unfolding count_to
count_most base zero n = le_refl 0
count_most base (suc k) n = suc-le-suc (most-by (ltb n base) (count_to base k (n / base)) k (count_most base k (n / base)))
  where
    most-by : (t : Bool) (m n : ℕ) → m ≤ n → pick t 0 m ≤ n
    most-by true m n h = zero-le
    most-by false m n h = h

pub text-most : (base n : ℕ) → length (plain_text base n) ≤ 64
text-most base n = rw (← length_digits base (digit_count base n) n) (count_most base 64 n)
