-- Scans of the open tags of a word of the set, and of all words: one law for each return and each turn of a loop.
use Prim.Native.Nat.{ℕ, ◌+◌, ◌-◌, ◌*◌, ◌/◌, ◌^◌, ◌≤◌, ◌<◌}
use native.Mathlib.Nat.{zero-div}
use native.Mathlib.Omega.{arith}
use mathlib.Core.Path.{◌≡◌, refl, sym, ap, ◌∙◌}
use mathlib.Core.Bool.{Bool, true, false}
use mathlib.Core.List.{List}
use lib.Dec.{ltb}
use lib.ListN.{get_or}
use borrow.Author.Tests.{ltb-true, ltb-false}
use Rattle.std.specs.Prelude.{Option, Some, None}
use Rattle.bits.specs.Choice.{pick}
use Rattle.bits.specs.Count.{clear_below}
use Rattle.bits.specs.Field.{bit}
use Rattle.scans.specs.Belows.{sum_below}
use Rattle.scans.proofs.BelowLaws.{sum-empty, sum-parts, sum-ends, sum-out, sum-most}
use Rattle.reads_rules.specs.declared.read.Read.{Read}
use Rattle.reads_rules.specs.Validity.{owed_of}
use Rattle.reads_words.specs.Capacity.{capacity}
use Rattle.reads_words.specs.TagSets.{without_lowest, contains, word_below}
use Rattle.reads_words.specs.Words.{read_at}
use Rattle.reads_words.proofs.SetLaws.{contains-over}
use Rattle.reads_words.proofs.LowestLaws.{lowest-below, lowest-in, lowest-out, lowest-other, lowest-less, word_in, word_over}
use Rattle.reads_words.proofs.WordLaws.{at-fits}
use Rattle.reads_slots.specs.Slots.{owed_in}
use Rattle.reads_slots.specs.Records.{record_at, state_below, owed_at}
use Rattle.reads_slots.specs.Inner.WordScans.{record_in, owed_in_word}
use Rattle.reads_slots.proofs.RecordLaws.{below_in, below-over}

-- ---- no read owes more than its length, which has 32 bits

read_small : (words : List ℕ) (tag : ℕ) → owed_of (read_at words tag) ≤ 2 ^ 32
unfolding owed_of
read_small words tag =
    let k = (at-fits words tag).length_fits in
    omega arith

record-small : (b : Bool) (words : List ℕ) (tag : ℕ) → owed_in (pick b (Some (read_at words tag)) None) ≤ 2 ^ 32
record-small true words tag = read_small words tag
record-small false words tag = omega arith

word-most : (w : ℕ) (words : List ℕ) (from : ℕ) → sum_below 64 (owed_in_word w words from) ≤ 2 ^ 32 * 64
unfolding owed_in_word record_in
word-most w words from = sum-most (owed_in_word w words from) (2 ^ 32) 64 (λ b. record-small (bit w b) words (from + b))

tags-most : (limit : ℕ) (opened words : List ℕ) (n : ℕ) → sum_below n (owed_at limit opened words) ≤ 2 ^ 32 * n
unfolding owed_at state_below record_at
tags-most limit opened words n = sum-most (owed_at limit opened words) (2 ^ 32) n (λ u. go (ltb u limit) u)
  where
    go : (b : Bool) (u : ℕ) → owed_in (pick b (pick (contains opened u) (Some (read_at words u)) None) None) ≤ 2 ^ 32
    go true u = record-small (contains opened u) words u
    go false u = omega arith

-- ---- a word that has no tag

module _ (rest : ℕ) (words : List ℕ) (from : ℕ) (h : rest ≡ 0) where
  none_in : (b : ℕ) → record_in rest words from b ≡ None
  unfolding record_in
  none_in b = rw (h, zero-div (2 ^ b))

  pub owed-end : (w sum : ℕ) → sum + sum_below 64 (owed_in_word rest words from) ≡ sum_below 64 (owed_in_word w words from) → sum ≡ sum_below 64 (owed_in_word w words from)
  unfolding owed_in_word
  owed-end w sum e =
      let z = sum-empty (owed_in_word rest words from) 64 (λ b k. ap owed_in (none_in b)) in
      omega arith

-- ---- a turn: the word's lowest tag is looked at and taken out

module _ (rest : ℕ) (words : List ℕ) (from : ℕ) (h : rest ≡ 0 → ⊥) (l : rest < 2 ^ 64) where
  open-lowest : record_in rest words from (clear_below 64 rest) ≡ Some (read_at words (from + clear_below 64 rest))
  unfolding record_in
  open-lowest = rw (lowest-in rest h l)

  freed-lowest : record_in (without_lowest rest) words from (clear_below 64 rest) ≡ None
  unfolding record_in
  freed-lowest = rw (lowest-out rest h l)

  kept-other : (b : ℕ) → (b ≡ clear_below 64 rest → ⊥) → record_in (without_lowest rest) words from b ≡ record_in rest words from b
  unfolding record_in
  kept-other b n = rw (lowest-other rest h l b n)

  pub rest-less : (rest' : ℕ) → rest' ≡ without_lowest rest → rest' < rest
  rest-less rest' e = rw e (lowest-less rest h l)

  pub rest-fits : (rest' : ℕ) → rest' ≡ without_lowest rest → rest' < 2 ^ 64
  rest-fits rest' e =
      let k = rest-less rest' e in
      omega arith

  module _ (b : ℕ) (e : b ≡ clear_below 64 rest) where
    pub tag_fits : from ≤ capacity → from + b < 18446744073709551616
    tag_fits k =
        let m = lowest-below rest h l in
        omega arith

    module _ (r : Read) (f : r ≡ read_at words (from + b)) where
      module _ (m n : ℕ) (d : m ≡ owed_of r) (q : n ≡ m) (w sum : ℕ) (i : sum + sum_below 64 (owed_in_word rest words from) ≡ sum_below 64 (owed_in_word w words from)) where
        out-owed : n + sum_below 64 (owed_in_word (without_lowest rest) words from) ≡ sum_below 64 (owed_in_word rest words from)
        unfolding owed_in_word
        out-owed =
            let p : n ≡ owed_in (record_in rest words from (clear_below 64 rest)) = (q ∙ d) ∙ (ap owed_of (f ∙ ap (λ (x : ℕ). read_at words (from + x)) e) ∙ sym (ap owed_in open-lowest)) in
            rw p
            (sum-out (owed_in_word rest words from) (owed_in_word (without_lowest rest) words from) 64 (clear_below 64 rest) (lowest-below rest h l) (ap owed_in freed-lowest)
            (λ u k. ap owed_in (kept-other u k)))

        pub owed-turn : (rest' : ℕ) → rest' ≡ without_lowest rest → sum + n + sum_below 64 (owed_in_word rest' words from) ≡ sum_below 64 (owed_in_word w words from)
        owed-turn rest' k =
            let o = out-owed in
            rw k (omega arith)

        pub owed-fits : sum + n < 18446744073709551616
        owed-fits =
            let o = out-owed in
            let most = word-most w words from in
            omega arith

pub ruleset turn-laws = (owed-end, rest-less, rest-fits, tag_fits, owed-turn, owed-fits)

-- ---- word j of the set, cut at the limit

module _ (limit : ℕ) (opened words : List ℕ) where
  pub same-record : (j b : ℕ) → j < capacity / 64 → b < 64 → record_in (word_below (get_or opened j 0) (64 * j) limit) words (64 * j) b ≡ state_below limit opened words (64 * j + b)
  same-record j b r h = go (ltb (64 * j + b) limit) refl
    where
      go : (c : Bool) → ltb (64 * j + b) limit ≡ c → record_in (word_below (get_or opened j 0) (64 * j) limit) words (64 * j) b ≡ state_below limit opened words (64 * j + b)
      go true e =
          let k = ltb-true (64 * j + b) limit e in
          rw (below_in limit opened words (64 * j + b) k) (unfold record_in record_at in rw (word_in opened j limit b h r k))
      go false e =
          let k = ltb-false (64 * j + b) limit e in
          rw (below-over limit opened words (64 * j + b) k) (unfold record_in in rw (word_over opened j limit b h k))

  -- the tags of the words up to j, and those of word j
  with-word : {M : Type 0} (g : Option Read → M) (join : M → M → M) (below : ℕ → (ℕ → M) → M)
      → ((f h : ℕ → M) (a n : ℕ) → ((b : ℕ) → b < n → h b ≡ f (a + b)) → below (a + n) f ≡ join (below a f) (below n h))
      → (j : ℕ) → j < capacity / 64 → below (64 * (j + 1)) (λ u. g (state_below limit opened words u))
      ≡ join (below (64 * j) (λ u. g (state_below limit opened words u))) (below 64 (λ b. g (record_in (word_below (get_or opened j 0) (64 * j) limit) words (64 * j) b)))
  with-word g join below parts j r =
      let e : 64 * (j + 1) ≡ 64 * j + 64 = omega arith in
      rw e (parts (λ u. g (state_below limit opened words u)) (λ b. g (record_in (word_below (get_or opened j 0) (64 * j) limit) words (64 * j) b)) (64 * j) 64 (λ b h. ap g (same-record j b r h)))

  pub none_over : (u : ℕ) → capacity ≤ u → state_below limit opened words u ≡ None
  none_over u h = go (ltb u limit) refl
    where
      go : (c : Bool) → ltb u limit ≡ c → state_below limit opened words u ≡ None
      go true e = below_in limit opened words u (ltb-true u limit e) ∙ unfold record_at in rw (contains-over opened u h)
      go false e = below-over limit opened words u (ltb-false u limit e)

  -- all words are all tags below the limit
  all_words : {M : Type 0} (g : Option Read → M) (below : ℕ → (ℕ → M) → M) → ((f : ℕ → M) (a n : ℕ) → ((u : ℕ) → a ≤ u → f u ≡ g None) → below (a + n) f ≡ below a f)
      → below (64 * (capacity / 64)) (λ u. g (state_below limit opened words u)) ≡ below limit (λ u. g (state_below limit opened words u))
  all_words {M} g below ends = go (ltb limit capacity) refl
    where
      here : ℕ → M
      here u = g (state_below limit opened words u)

      go : (c : Bool) → ltb limit capacity ≡ c → below capacity here ≡ below limit here
      go true e =
          let k = ltb-true limit capacity e in
          let room : limit + (capacity - limit) ≡ capacity = omega arith in
          ap (λ (n : ℕ). below n here) (sym room) ∙ ends here limit (capacity - limit) (λ u h. ap g (below-over limit opened words u h))
      go false e =
          let k = ltb-false limit capacity e in
          let room : capacity + (limit - capacity) ≡ limit = omega arith in
          sym (ap (λ (n : ℕ). below n here) (sym room) ∙ ends here capacity (limit - capacity) (λ u h. ap g (none_over u h)))

  -- ---- the turns

  pub owed_start : 0 ≡ sum_below (64 * 0) (owed_at limit opened words)
  unfolding sum_below
  owed_start = refl

  module _ (j w : ℕ) (h : j < capacity / 64) (e : w ≡ word_below (get_or opened j 0) (64 * j) limit) where
    module _ (sum m : ℕ) (f : m ≡ sum_below 64 (owed_in_word w words (64 * j))) (i : sum ≡ sum_below (64 * j) (owed_at limit opened words)) where
      pub owed-next : sum + m ≡ sum_below (64 * (j + 1)) (owed_at limit opened words)
      unfolding owed_at owed_in_word
      owed-next = rw (i, f, e) (sym (with-word owed_in ◌+◌ sum_below sum-parts j h))

      pub sum_fits : sum + m < 18446744073709551616
      sum_fits =
          let o = owed-next in
          let k = tags-most limit opened words (64 * (j + 1)) in
          omega arith

  -- ---- the ends

  module _ (j : ℕ) (h : j ≤ capacity / 64) (k : capacity / 64 ≤ j) where
    at-end : j ≡ capacity / 64
    at-end = omega arith

    pub owed-all-words : (sum : ℕ) → sum ≡ sum_below (64 * j) (owed_at limit opened words) → sum ≡ sum_below limit (owed_at limit opened words)
    unfolding owed_at
    owed-all-words sum i = rw at-end at i ∙ all_words owed_in sum_below sum-ends

pub ruleset scan-laws = (owed_start, owed-next, sum_fits, owed-all-words)
