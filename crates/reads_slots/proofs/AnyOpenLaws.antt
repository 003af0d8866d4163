-- The scan of any_open, turn by turn: the reads that the test has failed of, and those that are still to be looked at.
use Prim.Native.Nat.{ℕ, ◌+◌, ◌-◌, ◌*◌, ◌/◌, ◌^◌, ◌≤◌, ◌<◌}
use native.Mathlib.Nat.{zero-div}
use native.Mathlib.Omega.{arith}
use mathlib.Core.Path.{◌≡◌, refl, sym, ap, ◌∙◌}
use mathlib.Core.Logic.{◌⊎◌, inl, inr}
use mathlib.Core.Bool.{Bool, true, false, not, false≢true}
use mathlib.Core.List.{List}
use lib.Dec.{eqb, ltb}
use lib.ListN.{get_or}
use borrow.Author.Tests.{not-true, not-false, eqb-true, eqb-false, ltb-true, ltb-false}
use Rattle.std.specs.Prelude.{Option, Some, None}
use Rattle.bits.specs.Choice.{pick}
use Rattle.bits.specs.Count.{clear_below}
use Rattle.bits.specs.Field.{bit}
use Rattle.scans.specs.Belows.{all_below, any_below}
use Rattle.scans.proofs.BelowLaws.{all-empty, any-empty, all-fail, any-find}
use Rattle.tlp.specs.declared.settings.Settings.{Settings}
use Rattle.reads_rules.specs.declared.request.ReadRequest.{ReadRequest}
use Rattle.reads_rules.specs.declared.read.Read.{Read}
use Rattle.reads_rules.specs.Windows.{shares_byte}
use Rattle.reads_rules.specs.Validity.{valid_read}
use Rattle.reads_words.specs.Capacity.{capacity}
use Rattle.reads_words.specs.TagSets.{without_lowest, word_below}
use Rattle.reads_words.specs.Words.{read_at}
use Rattle.reads_words.proofs.LowestLaws.{lowest-below, lowest-in, lowest-other, lowest-less}
use Rattle.reads_slots.specs.Slots.{valid_state, shares_in}
use Rattle.reads_slots.specs.Records.{state_below, valid_at, shares_at}
use Rattle.reads_slots.specs.Inner.WordScans.{AnyOpen, record_in}
use Rattle.reads_slots.proofs.RecordLaws.{below-over}
use Rattle.reads_slots.proofs.ScanLaws.{same-record, none_over}

-- ---- an open record is not free, and holds one read

not-open : (r : Read) → None ≡ Some r → ⊥
not-open r e = let z : ◌≡◌ {A = ℕ} 0 1 = cc in omega arith

one-read : (r r₂ : Read) → Some r ≡ Some r₂ → r ≡ r₂
one-read r r₂ e = cc

picked : (b : Bool) (r r₂ : Read) → pick b (Some r) None ≡ Some r₂ → b ≡ true
picked true r r₂ e = refl
picked false r r₂ e = absurd (not-open r₂ e)

module _ (P : Read → Bool → Type 0) (limit : ℕ) (opened words : List ℕ) where
  -- P has failed of the reads of all tags below n
  abbrev pub Passed : ℕ → Type 0
  Passed n = (u : ℕ) (r : Read) → u < n → state_below limit opened words u ≡ Some r → P r false

  -- in word j: the bits of rest are open tags, and P has failed of the reads of all others
  abbrev pub Stands : ℕ → ℕ → Type 0
  Stands j rest = (b : ℕ) → b < 64 → bit rest b ≡ true → state_below limit opened words (64 * j + b) ≡ Some (read_at words (64 * j + b))

  abbrev pub Looked : ℕ → ℕ → Type 0
  Looked j rest =
      (u : ℕ) (r : Read) → u < 64 * (j + 1) → state_below limit opened words u ≡ Some r
      → P r false ⊎ ((b : ℕ) × ((u ≡ 64 * j + b) × (bit rest b ≡ true)))

  module _ (j rest : ℕ) (h : j < capacity / 64) (e : rest ≡ word_below (get_or opened j 0) (64 * j) limit) where
    here : (b : ℕ) → b < 64 → state_below limit opened words (64 * j + b) ≡ pick (bit rest b) (Some (read_at words (64 * j + b))) None
    here b k = sym (same-record limit opened words j b h k) ∙ unfold record_in in rw e

    pub stands-start : Stands j rest
    stands-start b k t = here b k ∙ rw t

    pub looked-start : Passed (64 * j) → Looked j rest
    looked-start p u r l s = go (ltb u (64 * j)) refl
      where
        go : (c : Bool) → ltb u (64 * j) ≡ c → P r false ⊎ ((b : ℕ) × ((u ≡ 64 * j + b) × (bit rest b ≡ true)))
        go true x = inl (p u r (ltb-true u (64 * j) x) s)
        go false x =
            let y = ltb-false u (64 * j) x in
            let z : u ≡ 64 * j + (u - 64 * j) = omega arith in
            let t : state_below limit opened words (64 * j + (u - 64 * j)) ≡ Some r = rw z at s in
            inr ((u - 64 * j), (z, picked (bit rest (u - 64 * j)) (read_at words (64 * j + (u - 64 * j))) r (sym (here (u - 64 * j) (omega arith)) ∙ t)))

  module _ (j rest : ℕ) (h : rest ≡ 0 → ⊥) (l : rest < 2 ^ 64) (s : Stands j rest) where
    lowest : state_below limit opened words (64 * j + clear_below 64 rest) ≡ Some (read_at words (64 * j + clear_below 64 rest))
    lowest = s (clear_below 64 rest) (lowest-below rest h l) (lowest-in rest h l)

    pub found-lowest : (b : ℕ) (r : Read) → b ≡ clear_below 64 rest → r ≡ read_at words (64 * j + b) → P r true → AnyOpen P limit opened words true
    found-lowest b r e f p =
        let q : state_below limit opened words (64 * j + b) ≡ Some r = ap (λ (n : ℕ). state_below limit opened words (64 * j + n)) e ∙ (lowest ∙ (ap (λ (n : ℕ). Some (read_at words (64 * j + n))) (sym e) ∙ ap Some (sym f))) in
        ((λ _. ((64 * j + b), r, (q, p))), (λ x. absurd (false≢true (sym x))))

    pub tag-fits : (b : ℕ) → b ≡ clear_below 64 rest → j < 4 → 64 * j + b < 18446744073709551616
    tag-fits b e k =
        let m = lowest-below rest h l in
        omega arith

    pub rest-less : (rest' : ℕ) → rest' ≡ without_lowest rest → rest' < rest
    rest-less rest' e = rw e (lowest-less rest h l)

    pub rest-fits : (rest' : ℕ) → rest' ≡ without_lowest rest → rest' < 18446744073709551616
    rest-fits rest' e =
        let k = rest-less rest' e in
        omega arith

    other : (b : ℕ) → bit (without_lowest rest) b ≡ true → bit rest b ≡ true
    other b t = go (eqb b (clear_below 64 rest)) refl
      where
        go : (c : Bool) → eqb b (clear_below 64 rest) ≡ c → bit rest b ≡ true
        go true x = rw (eqb-true b (clear_below 64 rest) x) (lowest-in rest h l)
        go false x = sym (lowest-other rest h l b (eqb-false b (clear_below 64 rest) x)) ∙ t

    pub stands-turn : (rest' : ℕ) → rest' ≡ without_lowest rest → Stands j rest'
    stands-turn rest' e b k t = s b k (other b (rw e at t))

    pub looked-turn : (rest' b₀ : ℕ) (r₀ : Read) → rest' ≡ without_lowest rest → b₀ ≡ clear_below 64 rest → r₀ ≡ read_at words (64 * j + b₀) → P r₀ false → Looked j rest → Looked j rest'
    looked-turn rest' b₀ r₀ e f i p k u r m q = go (k u r m q)
      where
        go : P r false ⊎ ((b : ℕ) × ((u ≡ 64 * j + b) × (bit rest b ≡ true))) → P r false ⊎ ((b : ℕ) × ((u ≡ 64 * j + b) × (bit rest' b ≡ true)))
        go (inl x) = inl x
        go (inr (b, (y, t))) = at (eqb b (clear_below 64 rest)) refl
          where
            at : (c : Bool) → eqb b (clear_below 64 rest) ≡ c → P r false ⊎ ((b₂ : ℕ) × ((u ≡ 64 * j + b₂) × (bit rest' b₂ ≡ true)))
            at true x =
                let z : u ≡ 64 * j + clear_below 64 rest = y ∙ ap (λ (n : ℕ). 64 * j + n) (eqb-true b (clear_below 64 rest) x) in
                let v : state_below limit opened words (64 * j + clear_below 64 rest) ≡ Some r = rw z at q in
                let w : r₀ ≡ read_at words (64 * j + clear_below 64 rest) = i ∙ ap (λ (n : ℕ). read_at words (64 * j + n)) f in
                inl (rw (w ∙ one-read (read_at words (64 * j + clear_below 64 rest)) r (sym lowest ∙ v)) at p)
            at false x = inr (b, (y, (ap (λ (n : ℕ). bit n b) e ∙ (lowest-other rest h l b (eqb-false b (clear_below 64 rest) x) ∙ t))))

  -- the word's end
  pub passed-word : (j rest : ℕ) → rest ≡ 0 → Looked j rest → Passed (64 * (j + 1))
  passed-word j rest e k u r m q = go (k u r m q)
    where
      go : P r false ⊎ ((b : ℕ) × ((u ≡ 64 * j + b) × (bit rest b ≡ true))) → P r false
      go (inl x) = x
      go (inr (b, (y, t))) =
          let z : false ≡ true = sym (rw (e, zero-div (2 ^ b))) ∙ t in
          absurd (false≢true z)

  pub passed-all : (j : ℕ) → capacity / 64 ≤ j → Passed (64 * j) → AnyOpen P limit opened words false
  passed-all j h p = ((λ e. absurd (false≢true e)), (λ _ u r q. go u r q (ltb u capacity) refl))
    where
      go : (u : ℕ) (r : Read) → state_below limit opened words u ≡ Some r → (c : Bool) → ltb u capacity ≡ c → P r false
      go u r q true x = let y = ltb-true u capacity x in p u r (omega arith) q
      go u r q false x = absurd (not-open r (sym (none_over limit opened words u (ltb-false u capacity x)) ∙ q))

-- ---- 11 and 24

module _ (limit : ℕ) (opened words : List ℕ) where
  record-of : (u : ℕ) → (x : Option Read) → state_below limit opened words u ≡ x → (g : Option Read → Bool) (z : Bool) → g None ≡ z
      → ((r : Read) → state_below limit opened words u ≡ Some r → g (Some r) ≡ z) → g (state_below limit opened words u) ≡ z
  record-of u None e g z n f = rw e n
  record-of u (Some r) e g z n f = rw e (f r e)

  within : (u : ℕ) (r : Read) → state_below limit opened words u ≡ Some r → u < limit
  within u r e = go (ltb u limit) refl
    where
      go : (c : Bool) → ltb u limit ≡ c → u < limit
      go true x = ltb-true u limit x
      go false x = absurd (not-open r (sym (below-over limit opened words u (ltb-false u limit x)) ∙ e))

  pub taken-of : (q : ReadRequest) (a : Bool) → AnyOpen (λ r b. b ≡ shares_byte q r.request) limit opened words a → a ≡ any_below limit (shares_at q limit opened words)
  unfolding shares_at
  taken-of q true k =
      let (u, r, (e, p)) = k.0 refl in
      sym (any-find (λ u. shares_in q (state_below limit opened words u)) limit u (within u r e) (ap (shares_in q) e ∙ sym p))
  taken-of q false k =
      sym
      (any-empty (λ u. shares_in q (state_below limit opened words u)) limit
      (λ u m. record-of u (state_below limit opened words u) refl (shares_in q) false refl (λ r e. sym (k.1 refl u r e))))

  pub valid-of : (settings : Settings) (a : Bool) → AnyOpen (λ r b. b ≡ not (valid_read settings r)) limit opened words a → not a ≡ all_below limit (valid_at settings limit opened words)
  unfolding valid_at
  valid-of settings true k =
      let (u, r, (e, p)) = k.0 refl in
      sym (all-fail (λ u. valid_state settings (state_below limit opened words u)) limit u (within u r e) (ap (valid_state settings) e ∙ not-true (valid_read settings r) (sym p)))
  valid-of settings false k =
      sym
      (all-empty (λ u. valid_state settings (state_below limit opened words u)) limit
      (λ u m. record-of u (state_below limit opened words u) refl (valid_state settings) true refl (λ r e. not-false (valid_read settings r) (sym (k.1 refl u r e)))))
