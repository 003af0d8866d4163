-- Bit fields by what stands above and below them.
use mathlib.Core.Path.{◌≡◌, sym, ap, ◌∙◌}
use mathlib.Core.Bool.{false}
use Prim.Native.Nat.{ℕ, suc, ◌+◌, ◌-◌, ◌*◌, ◌/◌, ◌%◌, ◌^◌, ◌≤◌, ◌<◌}
use native.Mathlib.Nat.{mod-lt, div-eq_of_lt, lt_of_lt_of_le}
use native.Mathlib.Numerals.{add-one}
use native.Mathlib.Omega.{arith}
use lib.Dec.{eqb}
use lib.Pow.{high, low, field, mod-mod-pow, pow_mono, pow_pos}
use Rattle.bits.specs.Field.{bit}

pub field_at : (p w hi v lo x : ℕ) → v < 2 ^ w → lo < 2 ^ p → x ≡ (hi * 2 ^ w + v) * 2 ^ p + lo → x / 2 ^ p % 2 ^ w ≡ v
field_at p w hi v lo x hv hlo e = rw (e, high (hi * 2 ^ w + v) p hlo, low hi w hv)

-- the n low bits of a number: a bit among them, and one over them
pub bit-low : (w n b : ℕ) → b < n → bit (w % 2 ^ n) b ≡ bit w b
bit-low w n b h = ap (λ (x : ℕ). eqb x 1) same
  where
    whole : n ≡ suc (n - b - 1) + b
    whole = omega arith

    same : w % 2 ^ n / 2 ^ b % 2 ≡ w / 2 ^ b % 2
    same =
        ap (λ (k : ℕ). w % 2 ^ k / 2 ^ b % 2) whole
        ∙ (ap (λ (x : ℕ). x % 2) (field w (suc (n - b - 1)) b)
        ∙ (ap (λ (k : ℕ). w / 2 ^ b % 2 ^ k % 2) (sym (add-one (n - b - 1))) ∙ mod-mod-pow (w / 2 ^ b) (n - b - 1) 1))

pub bit-over : (w n b : ℕ) → n ≤ b → bit (w % 2 ^ n) b ≡ false
bit-over w n b h = rw (div-eq_of_lt (lt_of_lt_of_le (mod-lt w (pow_pos n)) (pow_mono h)))
