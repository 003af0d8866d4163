-- Laws of a table of rows, in the words of a chain of tests with early returns: `search rows` walks the chain.
use Prim.Native.Nat.{ℕ, ◌≤◌, ◌<◌}
use mathlib.Core.Path.{◌≡◌, refl}
use mathlib.Core.List.{List, [], ◌∷◌, ◌++◌}
use mathlib.Core.Logic.{inl, inr}
use mathlib.Core.Bool.{Bool, true, false, not, and-eq-true_iff}
use native.Mathlib.Omega.{arith}
use lib.Dec.{ltb, leb, eqb}
use borrow.Author.Tests.{lt-ltb, le-ltb, eq-eqb, ne_eqb, leb-true}
use Rattle.bits.specs.Choice.{pick}
use Rattle.tlp.specs.Rows.{Row, row, first, Given, NoneHold, numbered, GivenExactly, NoneExactly, AnsweredBy}

module _ (rs : List Row) (n : ℕ) where
  pub here : (r b : Bool) → r ≡ b → r ≡ true → n ≡ first (row n b ∷ rs)
  unfolding first
  here r b e h = rw (← e, h)

  pub here-not : (r b : Bool) → r ≡ b → not r ≡ true → n ≡ first (row n (not b) ∷ rs)
  unfolding first
  here-not r b e h = rw (← e, h)

  pub here_lt : (a b : ℕ) → a < b → n ≡ first (row n (ltb a b) ∷ rs)
  unfolding first
  here_lt a b h = rw (lt-ltb a b h)

  -- the larger side is what a call gave
  pub here-lt-call : (a b r : ℕ) → r ≡ b → a < r → n ≡ first (row n (ltb a b) ∷ rs)
  unfolding first
  here-lt-call a b r e h = rw (← e, lt-ltb a r h)

  -- a number that must be what a call gave
  pub here-ne-call : (a b r : ℕ) → r ≡ b → (a ≡ r → ⊥) → n ≡ first (row n (not (eqb a b)) ∷ rs)
  unfolding first
  here-ne-call a b r e h = rw (← e, ne_eqb a r h)

module _ (rs : List Row) (m n : ℕ) where
  pub next : (r b : Bool) → r ≡ b → r ≡ false → m ≡ first rs → m ≡ first (row n b ∷ rs)
  unfolding first
  next r b e h q = rw (← e, h) q

  pub next-not : (r b : Bool) → r ≡ b → not r ≡ false → m ≡ first rs → m ≡ first (row n (not b) ∷ rs)
  unfolding first
  next-not r b e h q = rw (← e, h) q

  pub next-lt : (a b : ℕ) → b ≤ a → m ≡ first rs → m ≡ first (row n (ltb a b) ∷ rs)
  unfolding first
  next-lt a b h q = rw (le-ltb a b h) q

  pub next-lt-call : (a b r : ℕ) → r ≡ b → r ≤ a → m ≡ first rs → m ≡ first (row n (ltb a b) ∷ rs)
  unfolding first
  next-lt-call a b r e h q = rw (← e, le-ltb a r h) q

  pub next-ne-call : (a b r : ℕ) → r ≡ b → a ≡ r → m ≡ first rs → m ≡ first (row n (not (eqb a b)) ∷ rs)
  unfolding first
  next-ne-call a b r e h q = rw (← e, eq-eqb a r h) q

pub none : 0 ≡ first []
unfolding first
none = refl

-- several rows by one call, whose number is r

keep : (b : Bool) (r n k l : ℕ) → (r ≡ k → r ≡ l) → r ≡ pick b n k → r ≡ pick b n l
keep true r n k l f q = q
keep false r n k l f q = f q

pub some_of : (xs ys : List Row) (r : ℕ) → r ≡ first xs → (r ≡ 0 → ⊥) → r ≡ first (xs ++ ys)
unfolding first
some_of [] ys r e h = absurd (h e)
some_of (x ∷ xs) ys r e h = keep x.holds r x.number (first xs) (first (xs ++ ys)) (λ q. some_of xs ys r q h) e

skip : (b : Bool) (r m n k l : ℕ) → leb 1 n ≡ true → r ≡ 0 → (r ≡ k → m ≡ l) → r ≡ pick b n k → m ≡ pick b n l
skip true r m n k l a h f q = absurd (omega (arith, leb-true 1 n a))
skip false r m n k l a h f q = f q

pub none_of : (xs ys : List Row) (r m : ℕ) → numbered xs ≡ true → r ≡ first xs → r ≡ 0 → m ≡ first ys → m ≡ first (xs ++ ys)
unfolding first
none_of [] ys r m a e h q = q
none_of (x ∷ xs) ys r m a e h q =
    let b = (and-eq-true_iff (leb 1 x.number) (numbered xs)).0 a in
    skip x.holds r m x.number (first xs) (first (xs ++ ys)) b.0 h (λ k. none_of xs ys r m b.1 k h q) e

pub ruleset rows = (here, next, here-not, next-not, here_lt, next-lt, here-lt-call, next-lt-call, here-ne-call, next-ne-call, none, some_of, none_of)

-- ---- what the number says of the rows

given-row : (b : Bool) (r : Row) (rs : List Row) (n : ℕ) → r.holds ≡ b → 0 < n → (first rs ≡ n → Given n rs) → pick b r.number (first rs) ≡ n → Given n (r ∷ rs)
given-row true r rs n e p f q = inl (e, q)
given-row false r rs n e p f q = inr (e, f q)

first-given : (rs : List Row) (n : ℕ) → 0 < n → first rs ≡ n → Given n rs
unfolding first
first-given [] n p e = absurd (omega arith)
first-given (r ∷ rs) n p e = given-row r.holds r rs n refl p (first-given rs n p) e

given-first : (rs : List Row) (n : ℕ) → Given n rs → first rs ≡ n
unfolding first
given-first [] n g = absurd g
given-first (r ∷ rs) n (inl g) = rw g.0 g.1
given-first (r ∷ rs) n (inr g) = rw g.0 (given-first rs n g.1)

pub given-exactly : GivenExactly
given-exactly rs n p = (first-given rs n p, given-first rs n)

pub none_first : (rs : List Row) → NoneHold rs → first rs ≡ 0
unfolding first
none_first [] h = refl
none_first (r ∷ rs) h = rw (h.0, none_first rs h.1)

row-none : (n : ℕ) (b : Bool) (later : ℕ) → leb 1 n ≡ true → pick b n later ≡ 0 → (b ≡ false) × (later ≡ 0)
row-none n true later k e = absurd (omega (arith, leb-true 1 n k))
row-none n false later k e = (refl, e)

pub first-none : (rs : List Row) → numbered rs ≡ true → first rs ≡ 0 → NoneHold rs
unfolding first
first-none [] k e = tt
first-none (r ∷ rs) k e =
    let m = (and-eq-true_iff (leb 1 r.number) (numbered rs)).0 k in
    let h = row-none r.number r.holds (first rs) m.0 e in
    (h.0, first-none rs m.1 h.1)

pub none-exactly : NoneExactly
none-exactly rs k = (first-none rs k, none_first rs)

pub answered-by : (rs : List Row) (n : ℕ) → numbered rs ≡ true → n ≡ first rs → AnsweredBy n rs
answered-by rs n k e = record {
  refused = λ m h. rw e (given-exactly rs m h);
  accepted = rw e (none-exactly rs k);
}

pub none-join : (ps qs : List Row) → NoneHold ps → NoneHold qs → NoneHold (ps ++ qs)
none-join [] qs h k = k
none-join (p ∷ ps) qs h k = (h.0, none-join ps qs h.1 k)

pub none-split : (ps qs : List Row) → NoneHold (ps ++ qs) → NoneHold ps × NoneHold qs
none-split [] qs h = (tt, h)
none-split (p ∷ ps) qs h =
    let r = none-split ps qs h.1 in
    ((h.0, r.0), r.1)
