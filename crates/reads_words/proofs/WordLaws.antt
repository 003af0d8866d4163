-- A read laid over the words of a tag: what that tag and every other one reads, and how many words there are.
use Prim.Native.Nat.{ℕ, ◌+◌, ◌*◌, ◌/◌, ◌%◌, ◌^◌, ◌≤◌, ◌<◌}
use mathlib.Core.Path.{◌≡◌, sym, ap, ◌∙◌}
use mathlib.Core.Bool.{true}
use mathlib.Core.List.{List}
use native.Mathlib.Omega.{arith}
use lib.Dec.{ltb}
use lib.ListN.{length, get_or, set, replicate, length-set}
use lib.Seq.{get_or-set_same, get_or-set_other, set-set, set_comm}
use borrow.Author.Tests.{lt-ltb, le-ltb}
use lib.Pow.{pow_pos, high, low, shr-shr}
use native.Mathlib.Nat.{mod-lt, mod-eq_of_lt}
use Rattle.reads_rules.specs.declared.read.Read.{Read}
use Rattle.reads_words.specs.Capacity.{capacity}
use Rattle.reads_words.specs.Words.{sizes_of, marks_of, read_of, read_at, put_words, put_read, clear_read}
use Rattle.reads_words.specs.Inner.Fits.{Fits}
use Rattle.reads_words.proofs.SetLaws.{by-room, set-zeros}

-- ---- the words of a tag

module _ (ws : List ℕ) (i a b c d : ℕ) where
  abbrev one : List ℕ
  one = set ws i a

  abbrev two : List ℕ
  two = set one (i + 1) b

  abbrev three : List ℕ
  three = set two (i + 2) c

  abbrev four : List ℕ
  four = set three (i + 3) d

  four-length : length four ≡ length ws
  four-length = length-set three (i + 3) d ∙ (length-set two (i + 2) c ∙ (length-set one (i + 1) b ∙ length-set ws i a))

  -- a place before or after
  four-other : (k : ℕ) → (k ≡ i → ⊥) → (k ≡ i + 1 → ⊥) → (k ≡ i + 2 → ⊥) → (k ≡ i + 3 → ⊥) → get_or four k 0 ≡ get_or ws k 0
  four-other k n₀ n₁ n₂ n₃ =
      get_or-set_other three (i + 3) k d 0 n₃
      ∙ (get_or-set_other two (i + 2) k c 0 n₂
      ∙ (get_or-set_other one (i + 1) k b 0 n₁
      ∙ get_or-set_other ws i k a 0 n₀))

  -- a word at another place, before or after the four
  four-set-other : (k y : ℕ) → (i ≡ k → ⊥) → (i + 1 ≡ k → ⊥) → (i + 2 ≡ k → ⊥) → (i + 3 ≡ k → ⊥) → set four k y ≡ set (set (set (set (set ws k y) i a) (i + 1) b) (i + 2) c) (i + 3) d
  four-set-other k y n₀ n₁ n₂ n₃ = rw (set_comm three (i + 3) k d y n₃, set_comm two (i + 2) k c y n₂, set_comm one (i + 1) k b y n₁, set_comm ws i k a y n₀)

  module _ (l : i + 3 < length ws) where
    four-0 : get_or four i 0 ≡ a
    four-0 =
        get_or-set_other three (i + 3) i d 0 (λ z. omega arith)
        ∙ (get_or-set_other two (i + 2) i c 0 (λ z. omega arith)
        ∙ (get_or-set_other one (i + 1) i b 0 (λ z. omega arith)
        ∙ get_or-set_same ws i a 0 (omega arith)))

    four-1 : get_or four (i + 1) 0 ≡ b
    four-1 =
        get_or-set_other three (i + 3) (i + 1) d 0 (λ z. omega arith)
        ∙ (get_or-set_other two (i + 2) (i + 1) c 0 (λ z. omega arith)
        ∙ get_or-set_same one (i + 1) b 0 (rw (length-set ws i a) (omega arith)))

    four-2 : get_or four (i + 2) 0 ≡ c
    four-2 =
        get_or-set_other three (i + 3) (i + 2) d 0 (λ z. omega arith)
        ∙ get_or-set_same two (i + 2) c 0 (rw (length-set one (i + 1) b, length-set ws i a) (omega arith))

    four-3 : get_or four (i + 3) 0 ≡ d
    four-3 = get_or-set_same three (i + 3) d 0 (rw (length-set two (i + 2) c, length-set one (i + 1) b, length-set ws i a) l)

-- a tag that there is room for, and one that there is none for
module _ (tag : ℕ) where
  within : tag < capacity → ltb tag capacity ≡ true
  within h = lt-ltb tag capacity h

  pub words-in : (ws : List ℕ) (a b c d : ℕ) → tag < capacity → put_words ws tag a b c d ≡ four ws (4 * tag) a b c d
  unfolding put_words
  words-in ws a b c d h = rw (within h)

  pub words-over : (ws : List ℕ) (a b c d : ℕ) → capacity ≤ tag → put_words ws tag a b c d ≡ ws
  unfolding put_words
  words-over ws a b c d h = rw (le-ltb tag capacity h)

  pub read-in : (ws : List ℕ) → tag < capacity → read_at ws tag ≡ read_of (get_or ws (4 * tag) 0) (get_or ws (4 * tag + 1) 0) (get_or ws (4 * tag + 2) 0) (get_or ws (4 * tag + 3) 0)
  unfolding read_at
  read-in ws h = rw (within h)

  pub read-over : (ws : List ℕ) → capacity ≤ tag → read_at ws tag ≡ read_of 0 0 0 0
  unfolding read_at
  read-over ws h = rw (le-ltb tag capacity h)

module _ (ws : List ℕ) (tag a b c d : ℕ) where
  length-words : length (put_words ws tag a b c d) ≡ length ws
  length-words = by-room tag (λ h. rw (words-in tag ws a b c d h) (four-length ws (4 * tag) a b c d)) (λ h. rw (words-over tag ws a b c d h))

  pub read-words : tag < capacity → 4 * tag + 3 < length ws → read_at (put_words ws tag a b c d) tag ≡ read_of a b c d
  read-words h l =
      rw (
        words-in tag ws a b c d h,
        read-in tag (four ws (4 * tag) a b c d) h,
        four-0 ws (4 * tag) a b c d l,
        four-1 ws (4 * tag) a b c d l,
        four-2 ws (4 * tag) a b c d l,
        four-3 ws (4 * tag) a b c d l,
      )

  module _ (u : ℕ) (n : u ≡ tag → ⊥) where
    off : (k m : ℕ) → 4 * u ≤ k → k ≤ 4 * u + 3 → 4 * tag ≤ m → m ≤ 4 * tag + 3 → k ≡ m → ⊥
    off k m g h i j e = n (omega arith)

    word-other : (k : ℕ) → 4 * u ≤ k → k ≤ 4 * u + 3 → get_or (four ws (4 * tag) a b c d) k 0 ≡ get_or ws k 0
    word-other k g h =
        four-other ws (4 * tag) a b c d k (off k (4 * tag) g h (omega arith) (omega arith)) (off k (4 * tag + 1) g h (omega arith) (omega arith))
        (off k (4 * tag + 2) g h (omega arith) (omega arith)) (off k (4 * tag + 3) g h (omega arith) (omega arith))

    laid-other : u < capacity → read_at (four ws (4 * tag) a b c d) u ≡ read_at ws u
    laid-other h =
        rw (
          read-in u (four ws (4 * tag) a b c d) h,
          read-in u ws h,
          word-other (4 * u) (omega arith) (omega arith),
          word-other (4 * u + 1) (omega arith) (omega arith),
          word-other (4 * u + 2) (omega arith) (omega arith),
          word-other (4 * u + 3) (omega arith) (omega arith),
        )

    pub read-words-other : read_at (put_words ws tag a b c d) u ≡ read_at ws u
    read-words-other =
        by-room tag
        (λ h. by-room u (λ k. ap (λ (y : List ℕ). read_at y u) (words-in tag ws a b c d h) ∙ laid-other k) (λ k. read-over u _ k ∙ sym (read-over u ws k)))
        (λ h. ap (λ (y : List ℕ). read_at y u) (words-over tag ws a b c d h))

-- the words of two tags, in either order
four-order : (ws : List ℕ) (u v a b c d a' b' c' d' : ℕ) → (u ≡ v → ⊥)
    → four (four ws (4 * u) a b c d) (4 * v) a' b' c' d' ≡ four (four ws (4 * v) a' b' c' d') (4 * u) a b c d
four-order ws u v a b c d a' b' c' d' n =
    rw (
      four-set-other ws (4 * u) a b c d (4 * v) a' (λ z. n (omega arith)) (λ z. omega arith) (λ z. omega arith) (λ z. omega arith),
      four-set-other (set ws (4 * v) a') (4 * u) a b c d (4 * v + 1) b' (λ z. omega arith) (λ z. n (omega arith)) (λ z. omega arith) (λ z. omega arith),
      four-set-other (set (set ws (4 * v) a') (4 * v + 1) b') (4 * u) a b c d (4 * v + 2) c' (λ z. omega arith) (λ z. omega arith) (λ z. n (omega arith)) (λ z. omega arith),
      four-set-other (set (set (set ws (4 * v) a') (4 * v + 1) b') (4 * v + 2) c') (4 * u) a b c d (4 * v + 3) d' (λ z. omega arith) (λ z. omega arith) (λ z. omega arith) (λ z. n (omega arith)),
    )

pub words-order : (ws : List ℕ) (u v a b c d a' b' c' d' : ℕ) → (u ≡ v → ⊥) → put_words (put_words ws u a b c d) v a' b' c' d' ≡ put_words (put_words ws v a' b' c' d') u a b c d
words-order ws u v a b c d a' b' c' d' n =
    by-room u
    (λ h. by-room v
    (λ k. rw (words-in u ws a b c d h, words-in v ws a' b' c' d' k, words-in v (four ws (4 * u) a b c d) a' b' c' d' k, words-in u (four ws (4 * v) a' b' c' d') a b c d h)
    (four-order ws u v a b c d a' b' c' d' n))
    (λ k. rw (words-over v ws a' b' c' d' k, words-over v (put_words ws u a b c d) a' b' c' d' k)))
    (λ h. rw (words-over u ws a b c d h, words-over u (put_words ws v a' b' c' d') a b c d h))

-- ---- the words of one tag twice: the last count

module _ (ws : List ℕ) (i a b c d a' b' c' d' : ℕ) where
  -- a word is laid over the one that stands there, whatever stands after it
  last-0 : set (four ws i a b c d) i a' ≡ four ws i a' b c d
  last-0 =
      rw (
        set_comm (three ws i a b c d) (i + 3) i d a' (λ z. omega arith),
        set_comm (two ws i a b c d) (i + 2) i c a' (λ z. omega arith),
        set_comm (one ws i a b c d) (i + 1) i b a' (λ z. omega arith),
        set-set ws i a a',
      )

  last-1 : set (four ws i a' b c d) (i + 1) b' ≡ four ws i a' b' c d
  last-1 =
      rw (
        set_comm (three ws i a' b c d) (i + 3) (i + 1) d b' (λ z. omega arith),
        set_comm (two ws i a' b c d) (i + 2) (i + 1) c b' (λ z. omega arith),
        set-set (one ws i a' b c d) (i + 1) b b',
      )

  last-2 : set (four ws i a' b' c d) (i + 2) c' ≡ four ws i a' b' c' d
  last-2 = rw (set_comm (three ws i a' b' c d) (i + 3) (i + 2) d c' (λ z. omega arith), set-set (two ws i a' b' c d) (i + 2) c c')

  four-last : four (four ws i a b c d) i a' b' c' d' ≡ four ws i a' b' c' d'
  four-last = rw (last-0, last-1, last-2, set-set (three ws i a' b' c' d) (i + 3) d d')

pub words_last : (ws : List ℕ) (tag a b c d a' b' c' d' : ℕ) → put_words (put_words ws tag a b c d) tag a' b' c' d' ≡ put_words ws tag a' b' c' d'
words_last ws tag a b c d a' b' c' d' =
    by-room tag
    (λ h. rw (words-in tag ws a b c d h, words-in tag ws a' b' c' d' h, words-in tag (four ws (4 * tag) a b c d) a' b' c' d' h) (four-last ws (4 * tag) a b c d a' b' c' d'))
    (λ h. rw (words-over tag ws a b c d h))

-- words of zero cleared
pub clear-zeros : (n tag : ℕ) → ◌≡◌ {A = List ℕ} (clear_read (replicate n 0) tag) (replicate n 0)
unfolding clear_read
clear-zeros n tag =
    by-room tag
    (λ h. words-in tag (replicate n 0) 0 0 0 0 h ∙ rw (set-zeros n (4 * tag), set-zeros n (4 * tag + 1), set-zeros n (4 * tag + 2), set-zeros n (4 * tag + 3)))
    (λ h. words-over tag (replicate n 0) 0 0 0 0 h)

-- ---- packed and unpacked

module _ (f l t a : ℕ) (hf : f < 2 ^ 8) (hl : l < 2 ^ 8) (ht : t < 2 ^ 8) (ha : a < 2 ^ 8) where
  marks-1 : marks_of f l t a / 2 ^ 8 ≡ (a * 2 ^ 8 + t) * 2 ^ 8 + l
  marks-1 = high ((a * 2 ^ 8 + t) * 2 ^ 8 + l) 8 hf

  marks-2 : marks_of f l t a / 2 ^ 16 ≡ a * 2 ^ 8 + t
  marks-2 = sym (shr-shr (marks_of f l t a) 8 8) ∙ (ap (λ (x : ℕ). x / 2 ^ 8) marks-1 ∙ high (a * 2 ^ 8 + t) 8 hl)

  marks-3 : marks_of f l t a / 2 ^ 24 ≡ a
  marks-3 = sym (shr-shr (marks_of f l t a) 16 8) ∙ (ap (λ (x : ℕ). x / 2 ^ 8) marks-2 ∙ high a 8 ht)

  marks-fields : (marks_of f l t a % 2 ^ 8 ≡ f) × (marks_of f l t a / 2 ^ 8 % 2 ^ 8 ≡ l) × (marks_of f l t a / 2 ^ 16 % 2 ^ 8 ≡ t) × (marks_of f l t a / 2 ^ 24 % 2 ^ 8 ≡ a)
  marks-fields = (
    low ((a * 2 ^ 8 + t) * 2 ^ 8 + l) 8 hf,
    ap (λ (x : ℕ). x % 2 ^ 8) marks-1 ∙ low (a * 2 ^ 8 + t) 8 hl,
    ap (λ (x : ℕ). x % 2 ^ 8) marks-2 ∙ low a 8 ht,
    ap (λ (x : ℕ). x % 2 ^ 8) marks-3 ∙ mod-eq_of_lt ha,
  )

pub unpacked : (r : Read) → Fits r.request
    → read_of r.request.access.address r.request.start (sizes_of r.request.access.length r.taken)
    (marks_of r.request.access.first r.request.access.last r.request.traffic_class r.request.attributes) ≡ r
unfolding read_of
unpacked r h =
    let m = marks-fields r.request.access.first r.request.access.last r.request.traffic_class r.request.attributes h.first_fits h.last_fits h.class_fits h.attributes_fit in
    rw (low r.taken 32 h.length_fits, high r.taken 32 h.length_fits, m.0, m.1, m.2, m.3)

-- ---- a read laid over a tag's words, and a tag's words cleared

pub length-put : (ws : List ℕ) (tag : ℕ) (r : Read) → length (put_read ws tag r) ≡ length ws
unfolding put_read
length-put ws tag r = length-words ws tag _ _ _ _

pub length-clear : (ws : List ℕ) (tag : ℕ) → length (clear_read ws tag) ≡ length ws
unfolding clear_read
length-clear ws tag = length-words ws tag 0 0 0 0

pub read-put : (ws : List ℕ) (tag : ℕ) (r : Read) → tag < capacity → 4 * tag + 3 < length ws → Fits r.request → read_at (put_read ws tag r) tag ≡ r
unfolding put_read
read-put ws tag r k l h = read-words ws tag _ _ _ _ k l ∙ unpacked r h

pub read-put-other : (ws : List ℕ) (tag : ℕ) (r : Read) (u : ℕ) → (u ≡ tag → ⊥) → read_at (put_read ws tag r) u ≡ read_at ws u
unfolding put_read
read-put-other ws tag r = read-words-other ws tag _ _ _ _

pub read-clear-other : (ws : List ℕ) (tag u : ℕ) → (u ≡ tag → ⊥) → read_at (clear_read ws tag) u ≡ read_at ws u
unfolding clear_read
read-clear-other ws tag = read-words-other ws tag 0 0 0 0

-- ---- what is read fits

pub of-fits : (a b c d : ℕ) → Fits (read_of a b c d).request
unfolding read_of
of-fits a b c d = record {
  length_fits = mod-lt c (pow_pos 32);
  first_fits = mod-lt d (pow_pos 8);
  last_fits = mod-lt (d / 2 ^ 8) (pow_pos 8);
  class_fits = mod-lt (d / 2 ^ 16) (pow_pos 8);
  attributes_fit = mod-lt (d / 2 ^ 24) (pow_pos 8);
}

pub at-fits : (ws : List ℕ) (tag : ℕ) → Fits (read_at ws tag).request
at-fits ws tag = by-room tag (λ h. rw (read-in tag ws h) (of-fits _ _ _ _)) (λ h. rw (read-over tag ws h) (of-fits _ _ _ _))
