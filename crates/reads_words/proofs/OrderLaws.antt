-- One tag put in or taken out twice: the last counts. Two tags: either order gives the same set.
use Prim.Native.Nat.{ℕ, ◌+◌, ◌-◌, ◌/◌, ◌%◌, ◌^◌, ◌≤◌, ◌<◌}
use mathlib.Core.Path.{◌≡◌, refl, sym}
use mathlib.Core.Bool.{Bool, true, false}
use mathlib.Core.List.{List}
use native.Mathlib.Omega.{arith}
use lib.Dec.{eqb, ltb}
use lib.ListN.{length, get_or, set}
use lib.Seq.{get_or-set_same, get_or-set_other, set-set, set_comm, set_out}
use borrow.Author.Tests.{eqb-true, eqb-false, ltb-true, ltb-false}
use Rattle.bits.specs.Choice.{pick}
use Rattle.bits.specs.Field.{bit}
use Rattle.reads_words.specs.TagSets.{with_bit, without_bit, changed, with_tag, without_tag}
use Rattle.reads_words.proofs.BitLaws.{bit_le, with-other, without_other, with-with-bit, without-without-bit, without-with-bit, with-without-bit}
use Rattle.reads_words.proofs.SetLaws.{by-room, changed-in, changed-over}

-- ---- two bits of a word

module _ (w b c : ℕ) (n : b ≡ c → ⊥) where
  -- p is bit b of the word, q bit c
  with-with : with_bit (with_bit w b) c ≡ with_bit (with_bit w c) b
  unfolding with_bit
  with-with = rw (with-other w b c (λ e. n (sym e)), with-other w c b n) (go (bit w b) (bit w c))
    where
      go : (p q : Bool) → pick q (pick p w (w + 2 ^ b)) (pick p w (w + 2 ^ b) + 2 ^ c) ≡ pick p (pick q w (w + 2 ^ c)) (pick q w (w + 2 ^ c) + 2 ^ b)
      go true true = refl
      go true false = refl
      go false true = refl
      go false false = omega arith

  without-without : without_bit (without_bit w b) c ≡ without_bit (without_bit w c) b
  unfolding without_bit
  without-without = rw (without_other w b c (λ e. n (sym e)), without_other w c b n) (go (bit w b) (bit w c))
    where
      go : (p q : Bool) → pick q (pick p (w - 2 ^ b) w - 2 ^ c) (pick p (w - 2 ^ b) w) ≡ pick p (pick q (w - 2 ^ c) w - 2 ^ b) (pick q (w - 2 ^ c) w)
      go true true = omega arith
      go true false = refl
      go false true = refl
      go false false = refl

  without-with : without_bit (with_bit w b) c ≡ with_bit (without_bit w c) b
  unfolding with_bit without_bit
  without-with = rw (with-other w b c (λ e. n (sym e)), without_other w c b n) (go (bit w b) (bit w c) refl)
    where
      go : (p q : Bool) → bit w c ≡ q → pick q (pick p w (w + 2 ^ b) - 2 ^ c) (pick p w (w + 2 ^ b)) ≡ pick p (pick q (w - 2 ^ c) w) (pick q (w - 2 ^ c) w + 2 ^ b)
      go true true e = refl
      go true false e = refl
      go false true e =
          let l = bit_le w c e in
          omega arith
      go false false e = refl

-- ---- one tag of a set twice, and two tags, for changes of a word that allow it

module _ (g h : ℕ → ℕ → ℕ) (ws : List ℕ) where
  abbrev laid : (ℕ → ℕ → ℕ) → List ℕ → ℕ → List ℕ
  laid f xs tag = set xs (tag / 64) (f (get_or xs (tag / 64) 0) (tag % 64))

  -- the last change counts
  twice : ((w b : ℕ) → h (g w b) b ≡ h w b) → (u : ℕ) → changed h (changed g ws u) u ≡ changed h ws u
  twice e u = by-room u (λ r. rw (changed-in g ws u r, changed-in h ws u r, changed-in h (laid g ws u) u r) (go (ltb (u / 64) (length ws)) refl)) (λ r. rw (changed-over g ws u r))
    where
      go : (c : Bool) → ltb (u / 64) (length ws) ≡ c → laid h (laid g ws u) u ≡ laid h ws u
      go true l =
          rw (get_or-set_same ws (u / 64) (g (get_or ws (u / 64) 0) (u % 64)) 0 (ltb-true (u / 64) (length ws) l), e (get_or ws (u / 64) 0) (u % 64))
          (set-set ws (u / 64) (g (get_or ws (u / 64) 0) (u % 64)) (h (get_or ws (u / 64) 0) (u % 64)))
      go false l = rw (set_out ws (u / 64) (g (get_or ws (u / 64) 0) (u % 64)) (ltb-false (u / 64) (length ws) l))

  module _ (swap : (w b c : ℕ) → (b ≡ c → ⊥) → h (g w b) c ≡ g (h w c) b) (u v : ℕ) (n : u ≡ v → ⊥) where
    apart : (u / 64 ≡ v / 64 → ⊥) → laid h (laid g ws u) v ≡ laid g (laid h ws v) u
    apart m =
        rw (get_or-set_other ws (u / 64) (v / 64) (g (get_or ws (u / 64) 0) (u % 64)) 0 (λ e. m (sym e)), get_or-set_other ws (v / 64) (u / 64) (h (get_or ws (v / 64) 0) (v % 64)) 0 m)
        (set_comm ws (u / 64) (v / 64) _ _ m)

    within : v / 64 ≡ u / 64 → u / 64 < length ws → laid h (laid g ws u) v ≡ laid g (laid h ws v) u
    within e l =
        rw (
          e,
          get_or-set_same ws (u / 64) (g (get_or ws (u / 64) 0) (u % 64)) 0 l,
          get_or-set_same ws (u / 64) (h (get_or ws (u / 64) 0) (v % 64)) 0 l,
          set-set ws (u / 64) (g (get_or ws (u / 64) 0) (u % 64)) (h (g (get_or ws (u / 64) 0) (u % 64)) (v % 64)),
          set-set ws (u / 64) (h (get_or ws (u / 64) 0) (v % 64)) (g (h (get_or ws (u / 64) 0) (v % 64)) (u % 64)),
          swap (get_or ws (u / 64) 0) (u % 64) (v % 64) (λ z. n (omega arith)),
        )

    no_word : v / 64 ≡ u / 64 → length ws ≤ u / 64 → laid h (laid g ws u) v ≡ laid g (laid h ws v) u
    no_word e l = rw (e, set_out ws (u / 64) (g (get_or ws (u / 64) 0) (u % 64)) l, set_out ws (u / 64) (h (get_or ws (u / 64) 0) (v % 64)) l, set_out ws (u / 64) (g (get_or ws (u / 64) 0) (u % 64)) l)

    laid-order : laid h (laid g ws u) v ≡ laid g (laid h ws v) u
    laid-order = go (eqb (v / 64) (u / 64)) refl (ltb (u / 64) (length ws)) refl
      where
        go : (b : Bool) → eqb (v / 64) (u / 64) ≡ b → (c : Bool) → ltb (u / 64) (length ws) ≡ c → laid h (laid g ws u) v ≡ laid g (laid h ws v) u
        go true e true l = within (eqb-true (v / 64) (u / 64) e) (ltb-true (u / 64) (length ws) l)
        go true e false l = no_word (eqb-true (v / 64) (u / 64) e) (ltb-false (u / 64) (length ws) l)
        go false e c l =
            let d = eqb-false (v / 64) (u / 64) e in
            apart (λ z. d (sym z))

    changes-order : changed h (changed g ws u) v ≡ changed g (changed h ws v) u
    changes-order =
        by-room u
        (λ r. by-room v
        (λ s. rw (changed-in g ws u r, changed-in h ws v s, changed-in h (laid g ws u) v s, changed-in g (laid h ws v) u r) laid-order)
        (λ s. rw (changed-over h ws v s, changed-over h (changed g ws u) v s)))
        (λ r. rw (changed-over g ws u r, changed-over g (changed h ws v) u r))

module _ (ws : List ℕ) (u : ℕ) where
  pub with-twice : with_tag (with_tag ws u) u ≡ with_tag ws u
  with-twice = twice with_bit with_bit ws with-with-bit u

  pub without-twice : without_tag (without_tag ws u) u ≡ without_tag ws u
  without-twice = twice without_bit without_bit ws without-without-bit u

  pub without-after : without_tag (with_tag ws u) u ≡ without_tag ws u
  without-after = twice with_bit without_bit ws without-with-bit u

  pub with-after : with_tag (without_tag ws u) u ≡ with_tag ws u
  with-after = twice without_bit with_bit ws with-without-bit u

  module _ (v : ℕ) (n : u ≡ v → ⊥) where
    pub with-with-tag : with_tag (with_tag ws u) v ≡ with_tag (with_tag ws v) u
    with-with-tag = changes-order with_bit with_bit ws with-with u v n

    pub without-without-tag : without_tag (without_tag ws u) v ≡ without_tag (without_tag ws v) u
    without-without-tag = changes-order without_bit without_bit ws without-without u v n

    pub without-with-tag : without_tag (with_tag ws u) v ≡ with_tag (without_tag ws v) u
    without-with-tag = changes-order with_bit without_bit ws without-with u v n
