-- The list of cuttings holds exactly the lawful rows.
use Prim.Native.Nat.{ℕ, zero, suc, ◌+◌, ◌-◌, ◌*◌, ◌%◌, ◌≤◌}
use mathlib.Core.Path.{◌≡◌, refl, ap}
use mathlib.Core.Logic.{◌⊎◌, inl, inr, ⊎_elim}
use mathlib.Core.Bool.{Bool, true, false, ◌&&◌, ◌||◌, and-eq-true_iff}
use mathlib.Core.List.{List, [], ◌∷◌, ◌++◌, map}
use native.Mathlib.Omega.{arith}
use lib.Dec.{eqb, leb}
use borrow.Author.Tests.{leb-true, eqb-true, eqb-false, eq-eqb, ne_eqb}
use Rattle.bits.specs.Choice.{pick}
use Rattle.byte_enables.specs.declared.Access.{Access}
use Rattle.reads_rules.specs.Continuations.{cut_allowed}
use Rattle.cuttings.specs.Rows.{row_from, lawful_row, starting_with, rows_from, cuttings, Member, CuttingsExact}

-- ---- what is in a list that is joined, and in one whose rows all begin with n

in-append : (ns : List ℕ) (xs ys : List (List ℕ)) → Member ns (xs ++ ys) → Member ns xs ⊎ Member ns ys
in-append ns [] ys m = inr m
in-append ns (x ∷ xs) ys (inl e) = inl (inl e)
in-append ns (x ∷ xs) ys (inr m) = ⊎_elim (λ h. inl (inr h)) (λ h. inr h) (in-append ns xs ys m)

append_left : (ns : List ℕ) (xs ys : List (List ℕ)) → Member ns xs → Member ns (xs ++ ys)
append_left ns [] ys m = absurd m
append_left ns (x ∷ xs) ys (inl e) = inl e
append_left ns (x ∷ xs) ys (inr m) = inr (append_left ns xs ys m)

append_right : (ns : List ℕ) (xs ys : List (List ℕ)) → Member ns ys → Member ns (xs ++ ys)
append_right ns [] ys m = m
append_right ns (x ∷ xs) ys m = inr (append_right ns xs ys m)

in-mapped : (n : ℕ) (ns : List ℕ) (xs : List (List ℕ)) → Member ns (map (λ ms. n ∷ ms) xs) → (ms : List ℕ) × ((ns ≡ n ∷ ms) × Member ms xs)
in-mapped n ns [] m = absurd m
in-mapped n ns (x ∷ xs) (inl e) = (x, (e, inl refl))
in-mapped n ns (x ∷ xs) (inr m) =
    let h = in-mapped n ns xs m in
    (h.0, (h.1.0, inr h.1.1))

mapped : (n : ℕ) (ms : List ℕ) (xs : List (List ℕ)) → Member ms xs → Member (n ∷ ms) (map (λ ms. n ∷ ms) xs)
mapped n ms [] m = absurd m
mapped n ms (x ∷ xs) (inl e) = inl (ap (λ (l : List ℕ). n ∷ l) e)
mapped n ms (x ∷ xs) (inr m) = inr (mapped n ms xs m)

-- ---- the rows that begin with a length that stands

record Begins (stands : ℕ → Bool) (tails : ℕ → List (List ℕ)) (most : ℕ) (ns : List ℕ) : Type 0 where
  length : ℕ
  rest : List ℕ
  is : ns ≡ length ∷ rest
  some : 1 ≤ length
  fits : length ≤ most
  allowed : stands length ≡ true
  follows : Member rest (tails length)

module _ (stands : ℕ → Bool) (tails : ℕ → List (List ℕ)) where
  grown : (n : ℕ) (ns : List ℕ) → Begins stands tails n ns → Begins stands tails (suc n) ns
  grown n ns b =
      record { length = b.length; rest = b.rest; is = b.is; some = b.some; fits = omega (arith, b.fits); allowed = b.allowed; follows = b.follows }

  begins : (most : ℕ) (ns : List ℕ) → Member ns (starting_with stands tails most) → Begins stands tails most ns
  begins zero ns m = absurd m
  begins (suc n) ns m = go (begins n ns) (stands (suc n)) refl m
    where
      go : (Member ns (starting_with stands tails n) → Begins stands tails n ns) → (b : Bool) → stands (suc n) ≡ b
          → Member ns (pick b (map (λ ms. suc n ∷ ms) (tails (suc n))) [] ++ starting_with stands tails n)
          → Begins stands tails (suc n) ns
      go f false e h = grown n ns (f h)
      go f true e h =
          ⊎_elim
          (λ k. let r = in-mapped (suc n) ns (tails (suc n)) k in
          record { length = suc n; rest = r.0; is = r.1.0; some = omega arith; fits = omega arith; allowed = e; follows = r.1.1 })
          (λ k. grown n ns (f k))
          (in-append ns (map (λ ms. suc n ∷ ms) (tails (suc n))) (starting_with stands tails n) h)

  listed : (most n : ℕ) (ms : List ℕ) → 1 ≤ n → n ≤ most → stands n ≡ true → Member ms (tails n)
      → Member (n ∷ ms) (starting_with stands tails most)
  listed zero n ms some l e m = absurd (omega arith)
  listed (suc k) n ms some l e m = go (λ h. listed k n ms some h e m) (eqb n (suc k)) refl
    where
      go : (n ≤ k → Member (n ∷ ms) (starting_with stands tails k)) → (b : Bool) → eqb n (suc k) ≡ b
          → Member (n ∷ ms) (starting_with stands tails (suc k))
      go f true q =
          let z : n ≡ suc k = eqb-true n (suc k) q in
          let h : stands (suc k) ≡ true = rw (← z) e in
          let j : Member ms (tails (suc k)) = rw (← z) m in
          rw (z, h) (append_left (suc k ∷ ms) (map (λ ms. suc k ∷ ms) (tails (suc k))) (starting_with stands tails k) (mapped (suc k) ms (tails (suc k)) j))
      go f false q =
          append_right (n ∷ ms) (pick (stands (suc k)) (map (λ ms. suc k ∷ ms) (tails (suc k))) []) (starting_with stands tails k)
          (f (let z = eqb-false n (suc k) q in omega (arith, z)))

-- ---- lawful rows

module _ (a : Access) (mps rcb : ℕ) where
  abbrev stands : ℕ → ℕ → Bool
  stands p n = cut_allowed rcb a p n && leb (4 * n) mps

  -- a piece has a doubleword, and no more than are left
  cut-size : (p n : ℕ) → cut_allowed rcb a p n ≡ true → (1 ≤ n) × (n ≤ a.length - p)
  unfolding cut_allowed
  cut-size p n e =
      let h = (and-eq-true_iff (leb 1 n && leb n (a.length - p)) (eqb n (a.length - p) || eqb ((a.address + 4 * p + 4 * n) % rcb) 0)).0 e in
      let k = (and-eq-true_iff (leb 1 n) (leb n (a.length - p))).0 h.0 in
      (leb-true 1 n k.0, leb-true n (a.length - p) k.1)

  row-begins : (p n : ℕ) (ns : List ℕ) → row_from a mps rcb p (n ∷ ns) ≡ true → (stands p n ≡ true) × (row_from a mps rcb (p + n) ns ≡ true)
  unfolding row_from
  row-begins p n ns e =
      let h = (and-eq-true_iff (cut_allowed rcb a p n) (leb (4 * n) mps && row_from a mps rcb (p + n) ns)).0 e in
      let k = (and-eq-true_iff (leb (4 * n) mps) (row_from a mps rcb (p + n) ns)).0 h.1 in
      (rw (h.0, k.0), k.1)

  row-joins : (p n : ℕ) (ns : List ℕ) → stands p n ≡ true → row_from a mps rcb (p + n) ns ≡ true → row_from a mps rcb p (n ∷ ns) ≡ true
  unfolding row_from
  row-joins p n ns e f =
      let h = (and-eq-true_iff (cut_allowed rcb a p n) (leb (4 * n) mps)).0 e in
      rw (h.0, h.1) f

  stands-size : (p n : ℕ) → stands p n ≡ true → (1 ≤ n) × (n ≤ a.length - p)
  stands-size p n e = cut-size p n ((and-eq-true_iff (cut_allowed rcb a p n) (leb (4 * n) mps)).0 e).0

  -- past the last doubleword there is no further piece
  row-ended : (p : ℕ) (ns : List ℕ) → a.length - p ≡ 0 → row_from a mps rcb p ns ≡ true → (ns ≡ []) × (p ≡ a.length)
  unfolding row_from
  row-ended p [] z e = (refl, eqb-true p a.length e)
  row-ended p (n ∷ ns) z e = let h = stands-size p n (row-begins p n ns e).0 in absurd (omega (arith, h.0, h.1))

  row-end : (p : ℕ) (ns : List ℕ) → ns ≡ [] → p ≡ a.length → row_from a mps rcb p ns ≡ true
  unfolding row_from
  row-end p ns e z = rw (e, eq-eqb p a.length z)

  -- the empty row where the read has ended, or else what is in the other rows
  end-or : (p : ℕ) (ns : List ℕ) (others : List (List ℕ)) (b : Bool) → eqb p a.length ≡ b → (Member ns others → row_from a mps rcb p ns ≡ true)
      → Member ns (pick b ([] ∷ []) others) → row_from a mps rcb p ns ≡ true
  end-or p ns others true q f (inl e) = row-end p ns e (eqb-true p a.length q)
  end-or p ns others true q f (inr h) = absurd h
  end-or p ns others false q f h = f h

  all-lawful : (k p : ℕ) (ns : List ℕ) → Member ns (rows_from k a mps rcb p) → row_from a mps rcb p ns ≡ true
  unfolding rows_from
  all-lawful zero p ns m = end-or p ns [] (eqb p a.length) refl (λ h. absurd h) m
  all-lawful (suc k) p ns m =
      end-or p ns (starting_with (stands p) (λ n. rows_from k a mps rcb (p + n)) (a.length - p)) (eqb p a.length) refl
      (λ h. let b = begins (stands p) (λ n. rows_from k a mps rcb (p + n)) (a.length - p) ns h in
      rw b.is (row-joins p b.length b.rest b.allowed (all-lawful k (p + b.length) b.rest b.follows)))
      m

  all_listed : (k p : ℕ) (ns : List ℕ) → a.length - p ≤ k → row_from a mps rcb p ns ≡ true → Member ns (rows_from k a mps rcb p)
  unfolding rows_from row_from
  all_listed zero p ns l e = let h = row-ended p ns (omega arith) e in rw (eq-eqb p a.length h.1) (inl h.0)
  all_listed (suc k) p [] l e = rw e (inl refl)
  all_listed (suc k) p (n ∷ ns) l e =
      let h = row-begins p n ns e in
      let size = stands-size p n h.0 in
      rw (ne_eqb p a.length (λ z. omega (arith, size.0, size.1)))
      (listed (stands p) (λ n. rows_from k a mps rcb (p + n)) (a.length - p) n ns size.0 size.1 h.0 (all_listed k (p + n) ns (omega (arith, size.0, size.1)) h.1))

pub cuttings-exact : CuttingsExact
unfolding cuttings lawful_row
cuttings-exact a mps rcb ns = (all-lawful a mps rcb a.length 0 ns, all_listed a mps rcb a.length 0 ns (omega arith))
