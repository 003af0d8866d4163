-- What the bits of byte 0 say: Fmt the header's size and whether data follows, for every type in the kind table, and Fmt and Type the family.
use Prim.Native.Nat.{ℕ, zero, suc, ◌+◌, ◌-◌, ◌/◌, ◌%◌, ◌^◌, ◌≤◌, ◌<◌}
use native.Mathlib.Nat.{eq-zero-or-pos}
use native.Mathlib.Omega.{arith}
use mathlib.Core.Path.{◌≡◌, refl, sym, ◌∙◌}
use mathlib.Core.Logic.{⊎_elim}
use mathlib.Core.Bool.{Bool, true, false, not, ◌&&◌, and-eq-true_iff, true≢false}
use lib.Dec.{eqb, leb}
use borrow.Author.Tests.{eqb-true, leb-true, le-leb, lt-leb, ne_eqb}
use Rattle.bits.specs.Choice.{pick}
use Rattle.tlp.specs.PacketTypes.{type_at, header_dw, has_data, family_of, is_unlisted}
use Rattle.tlp.specs.Inner.PacketTypes.{family_by_type}
use Rattle.tlp.specs.declared.packet_type.Family.{Family}
use Rattle.tlp.specs.declared.packet_type.Family.TheVariants.{Message}
use Rattle.tlp.specs.declared.packet_type.PacketType.{PacketType}
use Rattle.tlp.specs.declared.packet_type.PacketType.TheVariants.{MRd32, MRd64, MWr32, MWr64, IORd, IOWr, CfgRd0, CfgWr0, CfgRd1, CfgWr1, Msg, MsgD, Cpl, CplD, Unlisted}

-- what holds of both choices holds of what is picked
picked : (P : PacketType → Type 0) (c : Bool) (t u : PacketType) → (c ≡ true → P t) → P u → P (pick c t u)
picked P true t u f g = f refl
picked P false t u f g = g

-- what holds of each row of the kind table holds of the type of every byte 0
module _ (P : ℕ → PacketType → Type 0) (b : ℕ) where
  key : (k : ℕ) (t u : PacketType) → P k t → P b u → P b (pick (eqb b k) t u)
  key k t u f g = picked (P b) (eqb b k) t u (λ e. rw (eqb-true b k e) f) g

  range : (l h : ℕ) (t u : PacketType) → (l ≤ b → b ≤ h → P b t) → P b u → P b (pick (leb l b && leb b h) t u)
  range l h t u f g =
      picked (P b) (leb l b && leb b h) t u
      (λ e. let x = (and-eq-true_iff (leb l b) (leb b h)).0 e in f (leb-true l b x.0) (leb-true b h x.1))
      g

  pub each-type :
      P 0x00 MRd32 → P 0x20 MRd64 → P 0x40 MWr32 → P 0x60 MWr64 → P 0x02 IORd → P 0x42 IOWr → P 0x04 CfgRd0 → P 0x44 CfgWr0 → P 0x05 CfgRd1 → P 0x45 CfgWr1
      → (0x30 ≤ b → b ≤ 0x37 → P b Msg) → (0x70 ≤ b → b ≤ 0x77 → P b MsgD) → P 0x0A Cpl → P 0x4A CplD → P b Unlisted → P b (type_at b)
  unfolding type_at
  each-type a1 a2 a3 a4 a5 a6 a7 a8 a9 a10 a11 a12 a13 a14 a15 =
      key 0x00 MRd32 _ a1 (key 0x20 MRd64 _ a2 (key 0x40 MWr32 _ a3 (key 0x60 MWr64 _ a4 (key 0x02 IORd _ a5 (key 0x42 IOWr _ a6 (key 0x04 CfgRd0 _ a7 (key 0x44 CfgWr0 _ a8
      (key 0x05 CfgRd1 _ a9 (key 0x45 CfgWr1 _ a10 (range 0x30 0x37 Msg _ a11 (range 0x70 0x77 MsgD _ a12 (key 0x0A Cpl _ a13 (key 0x4A CplD Unlisted a14 a15)))))))))))))

abbrev pub FmtSays : ℕ → PacketType → Type 0
FmtSays b t = is_unlisted (family_of t) ≡ false → (header_dw t ≡ 3 + b / 32 % 2) × (has_data t ≡ eqb (b / 64 % 2) 1)

module _ (b : ℕ) where
  pub fmt-law : FmtSays b (type_at b)
  fmt-law =
      each-type FmtSays b
      (λ _. (refl, refl)) (λ _. (refl, refl)) (λ _. (refl, refl)) (λ _. (refl, refl)) (λ _. (refl, refl)) (λ _. (refl, refl)) (λ _. (refl, refl)) (λ _. (refl, refl)) (λ _. (refl, refl)) (λ _. (refl, refl))
      (λ p q _. let x : b / 32 % 2 ≡ 1 = omega arith in let y : b / 64 % 2 ≡ 0 = omega arith in rw (x, y) (refl, refl))
      (λ p q _. let x : b / 32 % 2 ≡ 1 = omega arith in let y : b / 64 % 2 ≡ 1 = omega arith in rw (x, y) (refl, refl))
      (λ _. (refl, refl)) (λ _. (refl, refl)) (λ h. absurd (true≢false h))

  wide_bit : (x : ℕ) → x < 2 → eqb x 1 ≡ eqb (3 + x) 4
  wide_bit zero l = refl
  wide_bit (suc zero) l = refl
  wide_bit (suc (suc x)) l = absurd (omega arith)

  pub wide-law : is_unlisted (family_of (type_at b)) ≡ false → eqb (b / 32 % 2) 1 ≡ eqb (header_dw (type_at b)) 4
  wide-law h = rw (fmt-law h).0 (wide_bit (b / 32 % 2) (omega arith))

  pub data-law : is_unlisted (family_of (type_at b)) ≡ false → eqb (b / 64 % 2) 1 ≡ has_data (type_at b)
  data-law h = sym (fmt-law h).1

-- a test of every value below a bound, computed once
abbrev pub all_below : ℕ → (ℕ → Bool) → Bool
all_below zero f = true
all_below (suc n) f = f n && all_below n f

pub below : (n : ℕ) (f : ℕ → Bool) → all_below n f ≡ true → (b : ℕ) → b < n → f b ≡ true
below zero f h b l = absurd (omega arith)
below (suc n) f h b l =
    let x = (and-eq-true_iff (f n) (all_below n f)).0 h in
    ⊎_elim (λ k. let e : b ≡ n = omega arith in rw e x.0) (λ k. below n f x.1 b (omega arith)) (eq-zero-or-pos (n - b))

-- byte 0 in the table, by a bit for each value of bits 5:0
abbrev pub agree : Bool → Bool → Bool
agree true c = c
agree false c = not c

pub agree_same : (b c : Bool) → agree b c ≡ true → b ≡ c
agree_same true true h = refl
agree_same true false h = sym h
agree_same false true h = h
agree_same false false h = refl

abbrev listed_bit : ℕ → Bool
listed_bit b = eqb (0x00FF000100000435 / 2 ^ (b % 64) % 2) 1

abbrev listed_by_bits : ℕ → Bool
listed_by_bits b = pick (leb 128 b) false (listed_bit b)

listed-checked : all_below 256 (λ b. agree (listed_by_bits b) (not (is_unlisted (family_of (type_at b))))) ≡ true
unfolding type_at
listed-checked = refl

module _ (b : ℕ) (l : b < 256) where
  listed-bits : listed_by_bits b ≡ not (is_unlisted (family_of (type_at b)))
  listed-bits = agree_same _ _ (below 256 (λ b. agree (listed_by_bits b) (not (is_unlisted (family_of (type_at b))))) listed-checked b l)

  pub listed-high : 128 ≤ b → false ≡ not (is_unlisted (family_of (type_at b)))
  listed-high h = rw (le-leb 128 b h) at listed-bits

  pub listed-low : b < 128 → eqb (0x00FF000100000435 / 2 ^ (b % 64) % 2) 1 ≡ not (is_unlisted (family_of (type_at b)))
  listed-low h = rw (lt-leb 128 b h) at listed-bits

pub ruleset listed-laws = (listed-high, listed-low)

-- the family by Type alone
abbrev TypeSays : ℕ → PacketType → Type 0
TypeSays b t = is_unlisted (family_of t) ≡ false → family_by_type (b % 32) ≡ family_of t

module _ (b : ℕ) where
  by-type-message : 16 ≤ b % 32 → family_by_type (b % 32) ≡ Message
  by-type-message h =
      rw (ne_eqb (b % 32) 0 (λ e. omega (arith, h, e)), ne_eqb (b % 32) 2 (λ e. omega (arith, h, e)), ne_eqb (b % 32) 4 (λ e. omega (arith, h, e)), ne_eqb (b % 32) 5 (λ e. omega (arith, h, e)), ne_eqb (b % 32) 10 (λ e. omega (arith, h, e)))

  by-type : TypeSays b (type_at b)
  by-type =
      each-type TypeSays b
      (λ _. refl) (λ _. refl) (λ _. refl) (λ _. refl) (λ _. refl) (λ _. refl) (λ _. refl) (λ _. refl) (λ _. refl) (λ _. refl)
      (λ p q _. by-type-message (omega arith)) (λ p q _. by-type-message (omega arith))
      (λ _. refl) (λ _. refl) (λ h. absurd (true≢false h))

  module _ (v : Family) where
    pub type-listed : v ≡ family_by_type (b % 32) → is_unlisted (family_of (type_at b)) ≡ false → v ≡ family_of (type_at b)
    type-listed e h = e ∙ by-type h
