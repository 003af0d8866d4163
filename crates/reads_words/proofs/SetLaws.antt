-- A tag put into a set and taken out: that tag, every other one, the empty set, and a word of zero.
use Prim.Native.Nat.{ℕ, ◌/◌, ◌%◌, ◌^◌, ◌≤◌, ◌<◌}
use mathlib.Core.Path.{◌≡◌, refl, sym, ap, ◌∙◌}
use mathlib.Core.Bool.{Bool, true, false}
use mathlib.Core.List.{List}
use native.Mathlib.Nat.{zero-div}
use native.Mathlib.Omega.{arith}
use lib.Dec.{eqb, ltb}
use lib.ListN.{length, get_or, set, replicate, length-set, length-replicate, get_or-replicate, get_or-eq_default}
use lib.Seq.{get_or-set_same, get_or-set_other, set-get_or, set_out}
use borrow.Author.Tests.{eqb-true, eqb-false, ltb-true, ltb-false, lt-ltb, le-ltb}
use Rattle.bits.specs.Field.{bit}
use Rattle.reads_words.specs.Capacity.{capacity}
use Rattle.reads_words.specs.TagSets.{with_bit, without_bit, contains, changed, with_tag, without_tag}
use Rattle.reads_words.proofs.BitLaws.{with-same, with-other, without-same, without_other}

-- a tag that there is room for, and one that there is none for
pub contains-in : (ws : List ℕ) (tag : ℕ) → tag < capacity → contains ws tag ≡ bit (get_or ws (tag / 64) 0) (tag % 64)
unfolding contains
contains-in ws tag h = rw (lt-ltb tag capacity h)

pub contains-over : (ws : List ℕ) (tag : ℕ) → capacity ≤ tag → contains ws tag ≡ false
unfolding contains
contains-over ws tag h = rw (le-ltb tag capacity h)

-- by whether there is room
pub by-room : {P : Type 0} (tag : ℕ) → (tag < capacity → P) → (capacity ≤ tag → P) → P
by-room {P} tag f g = go (ltb tag capacity) refl
  where
    go : (b : Bool) → ltb tag capacity ≡ b → P
    go true e = f (ltb-true tag capacity e)
    go false e = g (ltb-false tag capacity e)

-- a word of zero has no tag
zero_bit : (w b : ℕ) → w ≡ 0 → bit w b ≡ false
zero_bit w b h = rw (h, zero-div (2 ^ b))

pub none_in : (ws : List ℕ) (tag : ℕ) → get_or ws (tag / 64) 0 ≡ 0 → contains ws tag ≡ false
none_in ws tag h = by-room tag (λ k. contains-in ws tag k ∙ zero_bit (get_or ws (tag / 64) 0) (tag % 64) h) (contains-over ws tag)

zeros : (n j : ℕ) → ◌≡◌ {A = ℕ} (get_or (replicate n 0) j 0) 0
zeros n j = go (ltb j n) refl
  where
    go : (b : Bool) → ltb j n ≡ b → ◌≡◌ {A = ℕ} (get_or (replicate n 0) j 0) 0
    go true e = get_or-replicate n j 0 0 (ltb-true j n e)
    go false e = get_or-eq_default (replicate n 0) 0 (rw (length-replicate {A = ℕ} n 0) (ltb-false j n e))

pub set-zeros : (n j : ℕ) → ◌≡◌ {A = List ℕ} (set (replicate n 0) j 0) (replicate n 0)
set-zeros n j = ap (λ (x : ℕ). set (replicate n 0) j x) (sym (zeros n j)) ∙ set-get_or (replicate n 0) j 0

-- the empty set
pub empty-in : (n tag : ℕ) → contains (replicate n 0) tag ≡ false
empty-in n tag = none_in (replicate n 0) tag (zeros n (tag / 64))

-- ---- one bit changed

module _ (g : ℕ → ℕ → ℕ) (ws : List ℕ) (tag : ℕ) where
  pub changed-in : tag < capacity → changed g ws tag ≡ set ws (tag / 64) (g (get_or ws (tag / 64) 0) (tag % 64))
  unfolding changed
  changed-in h = rw (lt-ltb tag capacity h)

  pub changed-over : capacity ≤ tag → changed g ws tag ≡ ws
  unfolding changed
  changed-over h = rw (le-ltb tag capacity h)

  pub length-changed : length (changed g ws tag) ≡ length ws
  length-changed = by-room tag (λ h. rw (changed-in h) (length-set ws (tag / 64) _)) (λ h. rw (changed-over h))

  -- that tag, where there are words for it
  changed-same : tag < capacity → tag / 64 < length ws → contains (changed g ws tag) tag ≡ bit (g (get_or ws (tag / 64) 0) (tag % 64)) (tag % 64)
  changed-same h l = rw (changed-in h) (contains-in _ tag h ∙ rw (get_or-set_same ws (tag / 64) (g (get_or ws (tag / 64) 0) (tag % 64)) 0 l))

  -- past the words there is no tag
  changed-no-word : length ws ≤ tag / 64 → contains (changed g ws tag) tag ≡ false
  changed-no-word l = none_in (changed g ws tag) tag (get_or-eq_default (changed g ws tag) 0 (rw length-changed l))

  -- what keeps the word's other bits keeps every other tag
  module _ (f : (w c : ℕ) → (c ≡ tag % 64 → ⊥) → bit (g w (tag % 64)) c ≡ bit w c) (u : ℕ) (n : u ≡ tag → ⊥) where
    word_kept : u < capacity → bit (get_or (set ws (tag / 64) (g (get_or ws (tag / 64) 0) (tag % 64))) (u / 64) 0) (u % 64) ≡ bit (get_or ws (u / 64) 0) (u % 64)
    word_kept h = go (eqb (u / 64) (tag / 64)) refl (ltb (tag / 64) (length ws)) refl
      where
        x : ℕ
        x = g (get_or ws (tag / 64) 0) (tag % 64)

        go : (b : Bool) → eqb (u / 64) (tag / 64) ≡ b → (c : Bool) → ltb (tag / 64) (length ws) ≡ c → bit (get_or (set ws (tag / 64) x) (u / 64) 0) (u % 64) ≡ bit (get_or ws (u / 64) 0) (u % 64)
        go true e true l =
            let q = eqb-true (u / 64) (tag / 64) e in
            rw (q, get_or-set_same ws (tag / 64) x 0 (ltb-true (tag / 64) (length ws) l)) (f (get_or ws (tag / 64) 0) (u % 64) (λ z. n (omega arith)))
        go true e false l = rw (set_out ws (tag / 64) x (ltb-false (tag / 64) (length ws) l))
        go false e c l = rw (get_or-set_other ws (tag / 64) (u / 64) x 0 (eqb-false (u / 64) (tag / 64) e))

    changed-other : contains (changed g ws tag) u ≡ contains ws u
    changed-other =
        by-room u
        (λ h. by-room tag (λ k. rw (changed-in k) (contains-in _ u h ∙ (word_kept h ∙ sym (contains-in ws u h)))) (λ k. rw (changed-over k)))
        (λ h. contains-over _ u h ∙ sym (contains-over ws u h))

-- ---- a tag put in, a tag taken out

module _ (ws : List ℕ) (tag : ℕ) where
  pub in-with : tag < capacity → tag / 64 < length ws → contains (with_tag ws tag) tag ≡ true
  in-with h l = changed-same with_bit ws tag h l ∙ with-same (get_or ws (tag / 64) 0) (tag % 64)

  pub in_without : contains (without_tag ws tag) tag ≡ false
  in_without = by-room tag (λ h. go h (ltb (tag / 64) (length ws)) refl) (contains-over (without_tag ws tag) tag)
    where
      go : tag < capacity → (c : Bool) → ltb (tag / 64) (length ws) ≡ c → contains (without_tag ws tag) tag ≡ false
      go h true l = changed-same without_bit ws tag h (ltb-true (tag / 64) (length ws) l) ∙ without-same (get_or ws (tag / 64) 0) (tag % 64)
      go h false l = changed-no-word without_bit ws tag (ltb-false (tag / 64) (length ws) l)

  pub in-with-other : (u : ℕ) → (u ≡ tag → ⊥) → contains (with_tag ws tag) u ≡ contains ws u
  in-with-other = changed-other with_bit ws tag (λ w. with-other w (tag % 64))

  pub in-without-other : (u : ℕ) → (u ≡ tag → ⊥) → contains (without_tag ws tag) u ≡ contains ws u
  in-without-other = changed-other without_bit ws tag (λ w. without_other w (tag % 64))

-- a tag taken out of the empty set
pub without-empty : (n tag : ℕ) → ◌≡◌ {A = List ℕ} (without_tag (replicate n 0) tag) (replicate n 0)
without-empty n tag = by-room tag (λ h. changed-in without_bit (replicate n 0) tag h ∙ rw (zeros n (tag / 64), without-zero (tag % 64)) (set-zeros n (tag / 64))) (changed-over without_bit (replicate n 0) tag)
  where
    without-zero : (b : ℕ) → without_bit 0 b ≡ 0
    without-zero b = unfold without_bit in rw (zero_bit 0 b refl)
