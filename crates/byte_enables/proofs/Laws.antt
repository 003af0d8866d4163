-- What holds of every access: how many bytes are enabled.
use mathlib.Core.Path.{◌≡◌, refl}
use Prim.Native.Nat.{ℕ, zero, suc, ◌+◌, ◌*◌, ◌/◌, ◌%◌, ◌≤◌, ◌<◌}
use native.Mathlib.Nat.{zero-add, suc-add, add-zero, add_assoc, zero-lt-suc, mod-lt}
use native.Mathlib.Numerals.{one-add}
use native.Mathlib.Omega.{arith}
use lib.Dec.{eqb}
use borrow.Author.Tests.{eq-eqb, ne_eqb, le-leb, lt-leb}
use Rattle.bits.specs.Count.{set_bits}
use Rattle.bits.specs.Choice.{flag}
use Rattle.bits.specs.Field.{field}
use Rattle.byte_enables.specs.declared.Access.{Access}
use Rattle.byte_enables.specs.Enables.{enables_at, enabled, enabled_bytes}

-- ---- how many are enabled

pub enabled-add : (a : Access) (m n p : ℕ) → enabled_bytes a p (m + n) ≡ enabled_bytes a p m + enabled_bytes a (p + m) n
unfolding enabled_bytes
enabled-add a zero n p = simp (zero-add, add-zero)
enabled-add a (suc m) n p = simp (suc-add, enabled-add a m n (p + 1), add_assoc, one-add)

pub enabled-from : (a : Access) (p n : ℕ) → enabled_bytes a 0 (p + n) ≡ enabled_bytes a 0 p + enabled_bytes a p n
enabled-from a p n = rw zero-add at (enabled-add a p n 0)

-- none past the end
pub enabled-none : (a : Access) (n p : ℕ) → a.length ≤ p → enabled_bytes a p n ≡ 0
unfolding enabled_bytes enables_at set_bits
enabled-none a zero p h = refl
enabled-none a (suc n) p h = rw (le-leb a.length p h) (omega (arith, enabled-none a n (p + 1) (omega arith)))

-- every byte between the first doubleword and the last
pub enabled-middle : (a : Access) (n p : ℕ) → 0 < p → p + n < a.length → enabled_bytes a p n ≡ 4 * n
unfolding enabled_bytes enables_at set_bits
enabled-middle a zero p h l = refl
enabled-middle a (suc n) p h l =
    rw (lt-leb a.length p (omega arith), ne_eqb p 0 (λ e. omega arith), ne_eqb (p + 1) a.length (λ e. omega arith))
    (omega (arith, enabled-middle a n (p + 1) (omega arith) (omega arith)))

pub enabled-first : (a : Access) → 0 < a.length → enabled_bytes a 0 1 ≡ set_bits 4 (a.first % 16)
unfolding enabled_bytes enables_at
enabled-first a h = rw (lt-leb a.length 0 h) (omega arith)

pub enabled-last : (a : Access) (p : ℕ) → 0 < p → p + 1 ≡ a.length → enabled_bytes a p 1 ≡ set_bits 4 (a.last % 16)
unfolding enabled_bytes enables_at
enabled-last a p h e =
    rw (lt-leb a.length p (omega arith), ne_eqb p 0 (λ z. omega arith), eq-eqb (p + 1) a.length e) (omega arith)

-- ---- byte by byte

flag-bit : (d : ℕ) → d < 2 → flag (eqb d 1) ≡ d
flag-bit zero h = refl
flag-bit (suc zero) h = refl
flag-bit (suc (suc d)) h = absurd (omega arith)

byte-count : (a : Access) (i j k : ℕ) → j < 4 → k ≡ 4 * i + j → flag (enabled a k) ≡ field (enables_at a i) j 1
unfolding enabled
byte-count a i j k h e =
    let q : k / 4 ≡ i = omega arith in
    let r : k % 4 ≡ j = omega arith in
    rw (q, r) (flag-bit (field (enables_at a i) j 1) (mod-lt _ (zero-lt-suc 1)))

pub enabled-count : (a : Access) (i : ℕ)
    → flag (enabled a (4 * i)) + flag (enabled a (4 * i + 1)) + flag (enabled a (4 * i + 2)) + flag (enabled a (4 * i + 3)) ≡ enabled_bytes a i 1
unfolding enabled_bytes set_bits
enabled-count a i =
    omega (arith, byte-count a i 0 (4 * i) (omega arith) (omega arith), byte-count a i 1 (4 * i + 1) (omega arith) refl, byte-count a i 2 (4 * i + 2) (omega arith) refl, byte-count a i 3 (4 * i + 3) (omega arith) refl)
