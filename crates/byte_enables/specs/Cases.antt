-- Document 01's own cases of byte enables, computed: a first of 0000, holes, the order of the bits, and the total
-- beside the set bits. (P5 to P11 are in reads_demands.) No promise cites this file.
use Rattle.std.specs.Prelude.{ℕ, ◌≡◌, refl, Bool, true, false, ◌&&◌, not, List, [], ◌∷◌, eqb}
use Rattle.bits.specs.Choice.{pick}
use Rattle.bits.specs.Count.{clear_below, clear_above, set_bits}
use Rattle.byte_enables.specs.declared.Access.{Access}
use Rattle.byte_enables.specs.Enables.{enables_allowed, off, trail, total, enables_at, enabled, enabled_bytes}

-- what a row says of its access
pub data Claim : Type 0 where
  allowed_is : Bool → Claim
  total_is : ℕ → Claim
  off_is : ℕ → Claim
  trail_is : ℕ → Claim
  bytes_are : ℕ → Claim
  -- byte k of the window is enabled, or is not
  byte_is : ℕ → Bool → Claim

pub record Row : Type 0 where
  pub access : Access
  pub claims : List Claim

abbrev pub with : ℕ → ℕ → ℕ → Access
with length first last = record { address = 0; length = length; first = first; last = last }

abbrev pub cases : List Row
cases =
    -- "With first 0000 and Length 1, off is 0 and trail is 3."
    record { access = with 1 0b0000 0b0000; claims = allowed_is true ∷ off_is 0 ∷ trail_is 3 ∷ bytes_are 0 ∷ [] }
    -- "Length 2: .. holes are permitted"
    ∷ record { access = with 2 0b0101 0b1010; claims = allowed_is true ∷ [] }
    -- "Bit 0 is the lowest byte. DWs between first and last have every byte enabled."
    ∷ record {
      access = with 3 0b1000 0b0001;
      claims =
          byte_is 0 false
          ∷ byte_is 3 true
          ∷ byte_is 4 true
          ∷ byte_is 8 true
          ∷ byte_is 9 false
          ∷ byte_is 12 false
          ∷ bytes_are 6
          ∷ [];
    }
    -- "counting set bits for the total (P5 has 2 set, total 3)"
    ∷ record { access = with 1 0b1010 0b0000; claims = bytes_are 2 ∷ total_is 3 ∷ [] }
    ∷ []

abbrev pub holds : Access → Claim → Bool
holds a (allowed_is b) = pick b (enables_allowed a) (not (enables_allowed a))
holds a (total_is n) = eqb (total a) n
holds a (off_is n) = eqb (off a) n
holds a (trail_is n) = eqb (trail a) n
holds a (bytes_are n) = eqb (enabled_bytes a 0 a.length) n
holds a (byte_is k b) = pick b (enabled a k) (not (enabled a k))

abbrev pub claims_hold : Access → List Claim → Bool
claims_hold a [] = true
claims_hold a (c ∷ cs) = holds a c && claims_hold a cs

abbrev pub all_hold : List Row → Bool
all_hold [] = true
all_hold (r ∷ rs) = claims_hold r.access r.claims && all_hold rs

pub cases-hold : all_hold cases ≡ true
unfolding enables_allowed off trail total enables_at enabled enabled_bytes clear_below clear_above set_bits
cases-hold = refl
