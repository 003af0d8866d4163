-- A bit of a word set and cleared: that bit, every other one, and that the word keeps its 64 bits.
use Prim.Native.Nat.{ℕ, zero, suc, ◌+◌, ◌-◌, ◌*◌, ◌/◌, ◌%◌, ◌^◌, ◌≤◌, ◌<◌}
use mathlib.Core.Path.{◌≡◌, refl, sym, ap, ◌∙◌}
use mathlib.Core.Bool.{Bool, true, false}
use native.Mathlib.Nat.{one-mul, suc-mul, pow-suc, add-mul-div_right, div-lt_iff_lt-mul}
use native.Mathlib.Omega.{arith}
use lib.Dec.{eqb, ltb}
use lib.Pow.{pow_pos, pow-add, shl_exact, shr-shr, shr_lt, split}
use borrow.Author.Tests.{eqb-true, eqb-false, eq-eqb, ne_eqb, ltb-true, ltb-false}
use Rattle.bits.specs.Choice.{pick}
use Rattle.bits.specs.Field.{bit}
use Rattle.reads_words.specs.TagSets.{with_bit, without_bit}

pub bit-fits : (b : ℕ) → b < 64 → 1 * 2 ^ b % 18446744073709551616 ≡ 2 ^ b
bit-fits b h = shl_exact {a = 1} 1 b 64 (omega arith) (omega arith) ∙ one-mul (2 ^ b)

clear-even : (q : ℕ) → eqb (q % 2) 1 ≡ false → q % 2 ≡ 0
clear-even q h =
    let n = eqb-false (q % 2) 1 h in
    omega arith

-- m times the c-th power more
up_by : (w m c : ℕ) → (w + m * 2 ^ c) / 2 ^ c ≡ w / 2 ^ c + m
up_by w m c = add-mul-div_right w m (pow_pos c)

up : (w b : ℕ) → (w + 2 ^ b) / 2 ^ b ≡ w / 2 ^ b + 1
up w b = rw (one-mul (2 ^ b)) at (up_by w 1 b)

-- a set bit is at most the word
pub bit_le : (w b : ℕ) → bit w b ≡ true → 2 ^ b ≤ w
bit_le w b h = go (w / 2 ^ b) (eqb-true (w / 2 ^ b % 2) 1 h) (split w b)
  where
    go : (q : ℕ) → q % 2 ≡ 1 → q * 2 ^ b + w % 2 ^ b ≡ w → 2 ^ b ≤ w
    go zero e f = absurd (omega arith)
    go (suc q) e f = omega (arith, f, suc-mul q (2 ^ b))

-- a clear bit has room
pub bit-room : (w b : ℕ) → bit w b ≡ false → w < 2 ^ 64 → b < 64 → w + 2 ^ b < 2 ^ 64
bit-room w b h k l = rw (product) at ((div-lt_iff_lt-mul {k = 2 ^ b} {x = w + 2 ^ b} {y = 2 ^ suc (63 - b)} (pow_pos b)).0 below)
  where
    sum : suc (63 - b) + b ≡ 64
    sum = omega arith

    product : 2 ^ suc (63 - b) * 2 ^ b ≡ 2 ^ 64
    product = sym (pow-add 2 (suc (63 - b)) b) ∙ ap (λ (x : ℕ). 2 ^ x) sum

    under : w / 2 ^ b < 2 ^ suc (63 - b)
    under = shr_lt (suc (63 - b)) b (rw sum k)

    below : (w + 2 ^ b) / 2 ^ b < 2 ^ suc (63 - b)
    below =
        let e = clear-even (w / 2 ^ b) h in
        let u = rw (pow-suc 2 (63 - b)) at under in
        rw (up w b, pow-suc 2 (63 - b)) (omega arith)

-- ---- a clear bit added

module _ (w b : ℕ) (h : bit w b ≡ false) where
  pub add_same : bit (w + 2 ^ b) b ≡ true
  add_same =
      let e = clear-even (w / 2 ^ b) h in
      rw (up w b) (eq-eqb ((w / 2 ^ b + 1) % 2) 1 (omega arith))

  -- a lower bit
  add-below : (c k : ℕ) → c + suc k ≡ b → (w + 2 ^ b) / 2 ^ c % 2 ≡ w / 2 ^ c % 2
  add-below c k e = rw (sum_is, up_by w (2 ^ suc k) c, pow-suc 2 k) (omega arith)
    where
      sum_is : w + 2 ^ b ≡ w + 2 ^ suc k * 2 ^ c
      sum_is =
          let f : suc k + c ≡ b = omega arith in
          ap (λ (x : ℕ). w + x) (ap (λ (x : ℕ). 2 ^ x) (sym f) ∙ pow-add 2 (suc k) c)

  -- the bits above
  add-above : (k : ℕ) → (w + 2 ^ b) / 2 ^ (b + 1 + k) ≡ w / 2 ^ (b + 1 + k)
  add-above k =
      let e = clear-even (w / 2 ^ b) h in
      let f : (w / 2 ^ b + 1) / 2 ≡ w / 2 ^ b / 2 = omega arith in
      rw (← shr-shr (w + 2 ^ b) (b + 1) k, ← shr-shr w (b + 1) k, ← shr-shr (w + 2 ^ b) b 1, ← shr-shr w b 1, up w b) (ap (λ (x : ℕ). x / 2 ^ k) f)

  pub add-other : (c : ℕ) → (c ≡ b → ⊥) → bit (w + 2 ^ b) c ≡ bit w c
  add-other c n = ap (λ (x : ℕ). eqb x 1) (go (ltb c b) refl)
    where
      go : (r : Bool) → ltb c b ≡ r → (w + 2 ^ b) / 2 ^ c % 2 ≡ w / 2 ^ c % 2
      go true e =
          let l = ltb-true c b e in
          add-below c (b - c - 1) (omega arith)
      go false e =
          let l = ltb-false c b e in
          let f : b + 1 + (c - b - 1) ≡ c = omega arith in
          ap (λ (x : ℕ). x % 2) (rw f at (add-above (c - b - 1)))

-- ---- a set bit taken away

module _ (w b : ℕ) (h : bit w b ≡ true) where
  back : (w - 2 ^ b) + 2 ^ b ≡ w
  back =
      let l = bit_le w b h in
      omega arith

  pub less-same : bit (w - 2 ^ b) b ≡ false
  less-same =
      let o = eqb-true (w / 2 ^ b % 2) 1 h in
      let u : w / 2 ^ b ≡ (w - 2 ^ b) / 2 ^ b + 1 = sym (ap (λ (x : ℕ). x / 2 ^ b) back) ∙ up (w - 2 ^ b) b in
      ne_eqb ((w - 2 ^ b) / 2 ^ b % 2) 1 (λ z. omega arith)

  pub less_other : (c : ℕ) → (c ≡ b → ⊥) → bit (w - 2 ^ b) c ≡ bit w c
  less_other c n = sym (add-other (w - 2 ^ b) b less-same c n) ∙ ap (λ (x : ℕ). bit x c) back

-- ---- set and cleared

module _ (w b : ℕ) where
  pub with-same : bit (with_bit w b) b ≡ true
  unfolding with_bit
  with-same = go (bit w b) refl
    where
      go : (r : Bool) → bit w b ≡ r → bit (pick r w (w + 2 ^ b)) b ≡ true
      go true e = e
      go false e = add_same w b e

  pub without-same : bit (without_bit w b) b ≡ false
  unfolding without_bit
  without-same = go (bit w b) refl
    where
      go : (r : Bool) → bit w b ≡ r → bit (pick r (w - 2 ^ b) w) b ≡ false
      go true e = less-same w b e
      go false e = e

  module _ (c : ℕ) (n : c ≡ b → ⊥) where
    pub with-other : bit (with_bit w b) c ≡ bit w c
    unfolding with_bit
    with-other = go (bit w b) refl
      where
        go : (r : Bool) → bit w b ≡ r → bit (pick r w (w + 2 ^ b)) c ≡ bit w c
        go true e = refl
        go false e = add-other w b e c n

    pub without_other : bit (without_bit w b) c ≡ bit w c
    unfolding without_bit
    without_other = go (bit w b) refl
      where
        go : (r : Bool) → bit w b ≡ r → bit (pick r (w - 2 ^ b) w) c ≡ bit w c
        go true e = less_other w b e c n
        go false e = refl

  -- the last that is done to a bit counts
  pub with-with-bit : with_bit (with_bit w b) b ≡ with_bit w b
  unfolding with_bit
  with-with-bit = go (bit w b) refl
    where
      go : (r : Bool) → bit w b ≡ r → pick (bit (pick r w (w + 2 ^ b)) b) (pick r w (w + 2 ^ b)) (pick r w (w + 2 ^ b) + 2 ^ b) ≡ pick r w (w + 2 ^ b)
      go true e = rw e
      go false e = rw (add_same w b e)

  pub without-without-bit : without_bit (without_bit w b) b ≡ without_bit w b
  unfolding without_bit
  without-without-bit = go (bit w b) refl
    where
      go : (r : Bool) → bit w b ≡ r → pick (bit (pick r (w - 2 ^ b) w) b) (pick r (w - 2 ^ b) w - 2 ^ b) (pick r (w - 2 ^ b) w) ≡ pick r (w - 2 ^ b) w
      go true e = rw (less-same w b e)
      go false e = rw e

  pub without-with-bit : without_bit (with_bit w b) b ≡ without_bit w b
  unfolding with_bit without_bit
  without-with-bit = go (bit w b) refl
    where
      go : (r : Bool) → bit w b ≡ r → pick (bit (pick r w (w + 2 ^ b)) b) (pick r w (w + 2 ^ b) - 2 ^ b) (pick r w (w + 2 ^ b)) ≡ pick r (w - 2 ^ b) w
      go true e = rw e
      go false e = rw (add_same w b e) (omega arith)

  pub with-without-bit : with_bit (without_bit w b) b ≡ with_bit w b
  unfolding with_bit without_bit
  with-without-bit = go (bit w b) refl
    where
      go : (r : Bool) → bit w b ≡ r → pick (bit (pick r (w - 2 ^ b) w) b) (pick r (w - 2 ^ b) w) (pick r (w - 2 ^ b) w + 2 ^ b) ≡ pick r w (w + 2 ^ b)
      go true e =
          let l = bit_le w b e in
          rw (less-same w b e) (omega arith)
      go false e = rw e
