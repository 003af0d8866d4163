-- Whether a record can be written, by what is looked at alike in every kind's and what in some kinds' only.
use Prim.Native.Nat.{ℕ, zero, suc, ◌+◌, ◌*◌, ◌^◌, ◌≤◌, ◌<◌}
use mathlib.Core.Path.{◌≡◌, refl, sym, ap, ◌∙◌}
use mathlib.Core.Bool.{Bool, true, false, ◌&&◌, not, true≢false}
use mathlib.Core.List.{List, [], ◌∷◌}
use native.Mathlib.Nat.{zero-mul, zero-add, suc-mul, one-le-pow, zero-lt-suc}
use native.Mathlib.Omega.{arith}
use lib.Dec.{eqb, leb, ltb}
use lib.ListN.{length}
use borrow.Author.Tests.{eq-eqb, ne_eqb, eqb-true, lt-ltb, ltb-true, lt-leb}
use Rattle.bits.specs.Choice.{pick, flag}
use Rattle.bits.specs.Word.{byte, word, Bytes}
use Rattle.bits.proofs.WordLaws.{AllBytes, word_lt, word_split}
use Rattle.tlp.specs.Rows.{first}
use Rattle.tlp_writable.specs.Given.{common_bad, own_bad, reserved_given, route_bad, given_rows}
use Rattle.tlp_record.specs.Record.{fields_of, route_case, route_value, kind_numbered, kind_in, route_numbered, route_in, record_packet, is_record}
use Rattle.tlp_record.proofs.RecordFacts.{record-length, record-kind}
use Rattle.tlp_record_write.specs.Inner.Fit.{writable}
use Rattle.tlp_record_write.specs.Inner.Shared.{flags_kept, route_kept, common_over, shared_fits}
use Rattle.tlp_record_write.proofs.Kept.{all_true, fields_kept, same_bool, record-kept}

pub eqb-self : (n : ℕ) → eqb n n ≡ true
eqb-self n = eq-eqb n n refl

pub flag-kept : (x : ℕ) → eqb x (flag (eqb x 1)) ≡ leb x 1
flag-kept zero = refl
flag-kept (suc zero) = refl
flag-kept (suc (suc x)) =
    rw (ne_eqb (suc (suc x)) 1 (λ e. omega arith), ne_eqb (suc (suc x)) 0 (λ e. omega arith), lt-leb (suc (suc x)) 1 (omega arith))

-- ---- the route

low_part : (s : List ℕ) → AllBytes s → eqb (word 8 s 8) (word 2 s 14) ≡ ltb (word 8 s 8) (2 ^ 16)
low_part s small =
    let e : word 8 s 8 ≡ word 6 s 8 * 65536 + word 2 s 14 = word_split 6 2 s 8 in
    let l : word 2 s 14 < 65536 = word_lt 2 s 14 small in
    same_bool _ _ (λ h. lt-ltb (word 8 s 8) 65536 (omega (arith, eqb-true (word 8 s 8) (word 2 s 14) h))) (λ h. eq-eqb (word 8 s 8) (word 2 s 14) (omega (arith, ltb-true (word 8 s 8) 65536 h)))

route-unknown : (n : ℕ) (s : List ℕ) → 5 < n
    → eqb n (route_case (route_numbered n s)) && eqb (word 8 s 8) (route_value (route_numbered n s)) ≡ route_kept n (word 8 s 8)
route-unknown n s h =
    rw (
      ne_eqb n 1 (λ e. omega arith),
      ne_eqb n 2 (λ e. omega arith),
      ne_eqb n 3 (λ e. omega arith),
      ne_eqb n 4 (λ e. omega arith),
      ne_eqb n 5 (λ e. omega arith),
      ne_eqb n 0 (λ e. omega arith),
      lt-leb n 5 h,
    )

route-kept : (n : ℕ) (s : List ℕ) → AllBytes s
    → eqb n (route_case (route_numbered n s)) && eqb (word 8 s 8) (route_value (route_numbered n s)) ≡ route_kept n (word 8 s 8)
route-kept zero s small = eqb-self (word 8 s 8)
route-kept (suc zero) s small = low_part s small
route-kept (suc (suc zero)) s small = refl
route-kept (suc (suc (suc zero))) s small = refl
route-kept (suc (suc (suc (suc zero)))) s small = refl
route-kept (suc (suc (suc (suc (suc zero))))) s small = refl
route-kept (suc (suc (suc (suc (suc (suc n)))))) s small = route-unknown (suc (suc (suc (suc (suc (suc n)))))) s (omega arith)

-- ---- joined

group : (a b c d t : Bool) → a && (b && (c && (d && t))) ≡ (a && b) && ((c && d) && t)
group false b c d t = refl
group true false c d t = refl
group true true false d t = refl
group true true true d t = refl

rows_none : (a b c d : Bool) → eqb (pick a 6 (pick b 6 (pick c 6 (pick d 6 0)))) 0 ≡ not a && (not b && (not c && not d))
rows_none true b c d = refl
rows_none false true c d = refl
rows_none false false true d = refl
rows_none false false false true = refl
rows_none false false false false = refl

shared-no : (f r o c g : Bool) → f && (r && c) ≡ false → (f && (r && o)) && (c && g) ≡ false
shared-no false r o c g e = refl
shared-no true false o c g e = refl
shared-no true true false c g e = refl
shared-no true true true false g e = refl
shared-no true true true true g e = absurd (true≢false e)

shared-yes : (f r o c g : Bool) → f && (r && c) ≡ true → (f && (r && o)) && (c && g) ≡ o && g
shared-yes false r o c g e = absurd (true≢false (sym e))
shared-yes true false o c g e = absurd (true≢false (sym e))
shared-yes true true o false g e = absurd (true≢false (sym e))
shared-yes true true o true g e = refl

module _ (s : List ℕ) (len : length s ≡ 48) (small : AllBytes s) where
  record_is : is_record s ≡ flags_kept (byte s 3) (byte s 4) && (route_kept (byte s 5) (word 8 s 8) && all_true (fields_kept s (fields_of (kind_numbered (byte s 0) s))))
  record_is =
      record-kept s small len
      ∙ group (eqb (byte s 3) (flag (eqb (byte s 3) 1))) (eqb (byte s 4) (flag (eqb (byte s 4) 1))) (eqb (byte s 5) (route_case (route_numbered (byte s 5) s))) (eqb (word 8 s 8) (route_value (route_numbered (byte s 5) s))) (all_true (fields_kept s (fields_of (kind_numbered (byte s 0) s))))
      ∙ rw (flag-kept (byte s 3), flag-kept (byte s 4), route-kept (byte s 5) s small)

  common_is : common_bad (record_packet s) ≡ common_over s
  unfolding common_bad record_packet
  common_is = rw (lt-leb (2 ^ 32) (word 4 s 24) (word_lt 4 s 24 small))

  given_is : eqb (first (given_rows (record_packet s))) 0
      ≡ not (common_over s) && (not (own_bad (kind_in s)) && (not (reserved_given (record_packet s)) && not (route_bad (route_in s) (kind_in s))))
  unfolding first record_packet
  given_is = rows_none (common_bad (record_packet s)) (own_bad (kind_in s)) (reserved_given (record_packet s)) (route_bad (route_in s) (kind_in s)) ∙ rw common_is

  shared-fails : shared_fits s ≡ false → false ≡ writable s
  unfolding writable shared_fits
  shared-fails h = sym (ap (λ (b : Bool). b && eqb (first (given_rows (record_packet s))) 0) record_is ∙ rw given_is (shared-no (flags_kept (byte s 3) (byte s 4)) (route_kept (byte s 5) (word 8 s 8)) _ (not (common_over s)) _ h))

  -- the rest, of a record whose shared part fits
  pub writable-is : shared_fits s ≡ true
      → writable s
      ≡ all_true (fields_kept s (fields_of (kind_numbered (byte s 0) s)))
      && (not (own_bad (kind_in s)) && (not (reserved_given (record_packet s)) && not (route_bad (route_in s) (kind_in s))))
  unfolding writable shared_fits
  writable-is h = ap (λ (b : Bool). b && eqb (first (given_rows (record_packet s))) 0) record_is ∙ rw given_is (shared-yes (flags_kept (byte s 3) (byte s 4)) (route_kept (byte s 5) (word 8 s 8)) _ (not (common_over s)) _ h)

pub not-shared : (s t : List ℕ) → length s ≡ 48 → t ≡ s → Bytes s → false ≡ shared_fits t → writable s ≡ false
not-shared s t len e small h = sym (shared-fails s len (λ i l. small i) (sym (rw e at h)))

no_record : (s : List ℕ) → (is_record s ≡ true → ⊥) → false ≡ writable s
unfolding writable
no_record s h = by (is_record s) refl
  where
    by : (b : Bool) → is_record s ≡ b → false ≡ is_record s && eqb (first (given_rows (record_packet s))) 0
    by true e = absurd (h e)
    by false e = rw e

pub not-long : (s : List ℕ) → (length s ≡ 48 → ⊥) → writable s ≡ false
not-long s h = sym (no_record s (λ e. h (record-length s e)))

pub kind-unknown : (s : List ℕ) → ((1 ≤ byte s 0) × (byte s 0 ≤ 12) → ⊥) → writable s ≡ false
kind-unknown s h = sym (no_record s (λ r. h (record-kind s r)))

-- ---- words that are zero

abbrev pub zeros : ℕ → ℕ → List ℕ → List Bool
zeros zero i s = []
zeros (suc k) i s = eqb (byte s i) 0 ∷ zeros k (i + 1) s

top-zero : (b k w : ℕ) → eqb (b * 256 ^ k + w) 0 ≡ eqb b 0 && eqb w 0
top-zero zero k w = rw (zero-mul, zero-add)
top-zero (suc b) k w =
    let p : 1 ≤ 256 ^ k = one-le-pow k 256 (zero-lt-suc 255) in
    rw (ne_eqb (suc b * 256 ^ k + w) 0 (λ e. omega (arith, suc-mul b (256 ^ k), p, e)), ne_eqb (suc b) 0 (λ e. omega arith))

pub word-zero : (k i : ℕ) (s : List ℕ) → eqb (word k s i) 0 ≡ all_true (zeros k i s)
word-zero zero i s = refl
word-zero (suc k) i s = top-zero (byte s i) k (word k s (i + 1)) ∙ ap (λ (b : Bool). eqb (byte s i) 0 && b) (word-zero k (i + 1) s)
