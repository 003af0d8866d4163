-- The rest of what is looked at, for each family of kinds: with the shared part it says exactly whether a record can be written.
use Prim.Native.Nat.{ℕ, zero, suc, ◌%◌, ◌^◌, ◌≤◌, ◌<◌}
use mathlib.Core.Path.{◌≡◌, refl, sym, ap, ◌∙◌}
use mathlib.Core.Bool.{Bool, true, false, ◌&&◌, ◌||◌, not, and-false, and-true, true≢false, and-eq-true_iff}
use mathlib.Core.List.{List, [], ◌∷◌, ◌++◌}
use native.Mathlib.Omega.{arith}
use lib.Dec.{eqb, leb}
use lib.ListN.{length}
use lib.Pow.{low}
use borrow.Author.Tests.{ne_eqb, lt-leb, eqb-true, eqb-false}
use Rattle.bits.specs.Choice.{pick}
use Rattle.bits.specs.Field.{field}
use Rattle.bits.specs.Word.{byte, word, Bytes}
use Rattle.bits.proofs.WordLaws.{AllBytes, word_lt, word_split}
use Rattle.tlp.specs.PacketTypes.{family_of, is_io_or_config}
use Rattle.tlp.specs.Packets.{address_of, type_in, type_of}
use Rattle.tlp.specs.declared.packet_type.PacketType.{PacketType}
use Rattle.tlp.specs.declared.packet_type.PacketType.TheVariants.{MRd32, MRd64, MWr32, MWr64}
use Rattle.tlp_writable.specs.Given.{outside, request_bad, config_bad, message_bad, completion_bad, own_bad, reserved_given, address_route_bad, id_route_bad, message_route_bad, route_bad}
use Rattle.tlp_record.specs.Record.{request_fields, config_fields, message_fields, completion_fields, fields_of, request_in, config_in, message_in, completion_in, kind_numbered, kind_in, route_numbered, route_in, record_packet}
use Rattle.tlp_record_write.specs.Inner.Fit.{writable}
use Rattle.tlp_record_write.specs.Inner.Shared.{flags_kept, route_kept, shared_fits}
use Rattle.tlp_record_write.specs.Inner.Kinds.{all_zero, request_over, config_over, completion_over, not_address, not_message, memory_fits, io_fits, config_fits, message_fits, completion_fits}
use Rattle.tlp_record_write.proofs.Kept.{all_true, fields_kept}
use Rattle.tlp_record_write.proofs.Writable.{eqb-self, flag-kept, zeros, word-zero, writable-is}

-- ---- tests in another order

all_append : (xs ys : List Bool) → all_true (xs ++ ys) ≡ all_true xs && all_true ys
all_append [] ys = refl
all_append (true ∷ xs) ys = all_append xs ys
all_append (false ∷ xs) ys = refl

regrouped : (a b c : Bool) → (a && b) && c ≡ a && (b && c)
regrouped true b c = refl
regrouped false b c = refl

flag-later : (a b x f y c : Bool) → a && (b && (x && (f && (y && c)))) ≡ (a && (b && (x && y))) && (f && c)
flag-later false b x f y c = refl
flag-later true false x f y c = refl
flag-later true true false f y c = refl
flag-later true true true true y c = refl
flag-later true true true false y c = sym (and-false y)

regrouped-three : (a b c t : Bool) → (a && (b && c)) && t ≡ a && (b && (c && t))
regrouped-three true b c t = regrouped b c t
regrouped-three false b c t = refl

-- with a length o that is looked at first
length-first : (o z b t : Bool) → z && (not (o || b) && t) ≡ not o && (z && (not b && t))
length-first true z b t = and-false z
length-first false z b t = refl

-- ---- routes of a record, whose case is known

route-known : (n v : ℕ) → route_kept n v ≡ true → n ≤ 5
route-known zero v e = omega arith
route-known (suc zero) v e = omega arith
route-known (suc (suc zero)) v e = omega arith
route-known (suc (suc (suc zero))) v e = omega arith
route-known (suc (suc (suc (suc zero)))) v e = omega arith
route-known (suc (suc (suc (suc (suc zero))))) v e = omega arith
route-known (suc (suc (suc (suc (suc (suc n)))))) v e =
    let m = suc (suc (suc (suc (suc (suc n))))) in
    absurd (true≢false (sym e ∙ rw (ne_eqb m 0 (λ q. omega arith), ne_eqb m 1 (λ q. omega arith), lt-leb m 5 (omega arith))))

module _ (s : List ℕ) where
  address-route : (w n : ℕ) → n ≤ 5 → address_route_bad w (route_numbered n s) ≡ not_address w n (word 8 s 8)
  unfolding address_route_bad
  address-route w zero h = refl
  address-route w (suc zero) h = refl
  address-route w (suc (suc zero)) h = refl
  address-route w (suc (suc (suc zero))) h = refl
  address-route w (suc (suc (suc (suc zero)))) h = refl
  address-route w (suc (suc (suc (suc (suc zero))))) h = refl
  address-route w (suc (suc (suc (suc (suc (suc n)))))) h = absurd (omega arith)

  module _ (small : AllBytes s) where
    byte-lt : (i : ℕ) → byte s i < 256
    byte-lt i = omega (arith, word_lt 1 s i small)

    id-route : (n : ℕ) → n ≤ 5 → not (id_route_bad (route_numbered n s)) ≡ eqb n 1
    unfolding id_route_bad
    id-route zero h = refl
    id-route (suc zero) h = rw (lt-leb (2 ^ 16) (word 2 s 14) (word_lt 2 s 14 small))
    id-route (suc (suc zero)) h = refl
    id-route (suc (suc (suc zero))) h = refl
    id-route (suc (suc (suc (suc zero)))) h = refl
    id-route (suc (suc (suc (suc (suc zero))))) h = refl
    id-route (suc (suc (suc (suc (suc (suc n)))))) h = absurd (omega arith)

    low-id : word 2 s 14 ≡ word 8 s 8 % 2 ^ 16
    low-id = omega (arith, word_split 6 2 s 8, word_lt 2 s 14 small)

    message-route : (n : ℕ) → n ≤ 5 → message_route_bad (word 8 s 16) (route_numbered n s) ≡ not_message n (word 8 s 8) (word 8 s 16)
    unfolding message_route_bad
    message-route zero h = refl
    message-route (suc zero) h = ap (λ (i : ℕ). not (eqb i (field (word 8 s 16) 48 16))) low-id
    message-route (suc (suc zero)) h = refl
    message-route (suc (suc (suc zero))) h = refl
    message-route (suc (suc (suc (suc zero)))) h = refl
    message-route (suc (suc (suc (suc (suc zero))))) h = refl
    message-route (suc (suc (suc (suc (suc (suc n)))))) h = absurd (omega arith)

    -- ---- the kinds' own fields

    request-over : request_bad (request_in s) ≡ request_over (word 4 s 28) (byte s 38) (byte s 39)
    unfolding request_bad request_in
    request-over = rw (lt-leb (2 ^ 16) (word 2 s 36) (word_lt 2 s 36 small), lt-leb (2 ^ 8) (byte s 6) (byte-lt 6))

    config-over : config_bad (config_in s) ≡ config_over (byte s 40) (byte s 41) (request_over (word 4 s 28) (byte s 38) (byte s 39))
    unfolding config_bad config_in
    config-over = rw request-over

    message-none : message_bad (message_in s) ≡ false
    unfolding message_bad message_in
    message-none =
        rw (
          lt-leb (2 ^ 16) (word 2 s 36) (word_lt 2 s 36 small),
          lt-leb (2 ^ 8) (byte s 6) (byte-lt 6),
          lt-leb (2 ^ 8) (byte s 7) (byte-lt 7),
          lt-leb (2 ^ 64) (word 8 s 16) (word_lt 8 s 16 small),
        )

    completion-over : completion_bad (completion_in s) ≡ completion_over (byte s 42) (word 4 s 32) (byte s 44)
    unfolding completion_bad completion_in
    completion-over = rw (lt-leb (2 ^ 16) (word 2 s 36) (word_lt 2 s 36 small), lt-leb (2 ^ 8) (byte s 6) (byte-lt 6))

    config-low : word 8 s 40 % 2 ^ 48 ≡ word 6 s 42
    config-low = rw (word_split 2 6 s 40) (low (word 2 s 40) 48 (word_lt 6 s 42 small))

    completion-low : word 8 s 40 % 2 ^ 24 ≡ word 3 s 45
    completion-low = rw (word_split 5 3 s 40) (low (word 5 s 40) 24 (word_lt 3 s 45 small))

  module _ (n : ℕ) (e : n ≡ byte s 0) where
    request-zero : all_true (fields_kept s (request_fields n (request_in s))) ≡ all_zero (byte s 7) (word 8 s 16) (word 4 s 32) (word 8 s 40)
    unfolding request_in
    request-zero = rw (← e, eqb-self n, eqb-self (word 4 s 28), eqb-self (byte s 38), eqb-self (byte s 39), word-zero 8 40 s)

    config-zero : AllBytes s → all_true (fields_kept s (config_fields n (config_in s))) ≡ all_zero (byte s 7) (word 8 s 16) (word 4 s 32) (word 8 s 40 % 2 ^ 48)
    unfolding config_in request_in
    config-zero small =
        rw (← e, eqb-self n, eqb-self (word 4 s 28), eqb-self (byte s 38), eqb-self (byte s 39), eqb-self (byte s 40), eqb-self (byte s 41), config-low small, word-zero 6 42 s)

    message-zero : (l : ℕ) → all_true (fields_kept s (message_fields n (message_in s) l)) ≡ eqb (word 4 s 28) l && all_zero (word 4 s 32) (word 8 s 40) (byte s 38) (byte s 39)
    unfolding message_in
    message-zero l = rw (← e, eqb-self n, eqb-self (byte s 7), eqb-self (word 8 s 16), word-zero 8 40 s)
        (ap (λ (b : Bool). eqb (word 4 s 28) l && (eqb (word 4 s 32) 0 && b))
        (all_append (zeros 8 40 s) (eqb (byte s 38) 0 ∷ eqb (byte s 39) 0 ∷ [])
        ∙ ap (λ (b : Bool). all_true (zeros 8 40 s) && (eqb (byte s 38) 0 && b)) (and-true (eqb (byte s 39) 0))))

    completion-zero : AllBytes s → (l : ℕ)
        → all_true (fields_kept s (completion_fields n (completion_in s) l))
        ≡ eqb (word 4 s 28) l
        && (all_zero (byte s 7) (word 8 s 16) (word 2 s 40) (word 8 s 40 % 2 ^ 24) && (leb (byte s 43) 1 && eqb (word 2 s 38) 0))
    unfolding completion_in
    completion-zero small l =
        rw (
          ← e,
          eqb-self n,
          eqb-self (word 4 s 32),
          eqb-self (byte s 42),
          eqb-self (byte s 44),
          flag-kept (byte s 43),
          completion-low small,
          word-zero 2 40 s,
          word-zero 3 45 s,
          word-zero 2 38 s,
        )
        (ap (λ (b : Bool). eqb (word 4 s 28) l && b)
        (ap (λ (b : Bool). eqb (byte s 7) 0 && (eqb (word 8 s 16) 0 && b))
        (all_append (zeros 2 40 s) (leb (byte s 43) 1 ∷ (zeros 3 45 s ++ zeros 2 38 s))
        ∙ ap (λ (b : Bool). all_true (zeros 2 40 s) && (leb (byte s 43) 1 && b)) (all_append (zeros 3 45 s) (zeros 2 38 s)))
        ∙ flag-later (eqb (byte s 7) 0) (eqb (word 8 s 16) 0) (all_true (zeros 2 40 s)) (leb (byte s 43) 1) (all_true (zeros 3 45 s)) (all_true (zeros 2 38 s))))

-- ---- kinds that have no Attr[2] to give

memory-plain : (b : Bool) (x y : PacketType) → is_io_or_config (family_of x) ≡ false → is_io_or_config (family_of y) ≡ false → is_io_or_config (family_of (pick b x y)) ≡ false
memory-plain true x y h k = h
memory-plain false x y h k = k

not-not : (b : Bool) → not (not b) ≡ b
not-not true = refl
not-not false = refl

module _ (s : List ℕ) (len : length s ≡ 48) (each : Bytes s) (shared : shared_fits s ≡ true) where
  small : AllBytes s
  small i h = each i

  abbrev rest_at : ℕ → Bool
  rest_at n =
      all_true (fields_kept s (fields_of (kind_numbered n s)))
      && (not (own_bad (kind_numbered n s))
      && (not (is_io_or_config (family_of (type_in (address_of (route_in s)) (kind_numbered n s))) && not (eqb (field (byte s 2) 2 1) 0))
      && not (route_bad (route_numbered (byte s 5) s) (kind_numbered n s))))

  known : byte s 5 ≤ 5
  unfolding shared_fits
  known =
      let h = (and-eq-true_iff (flags_kept (byte s 3) (byte s 4)) _).0 shared in
      route-known (byte s 5) (word 8 s 8) ((and-eq-true_iff (route_kept (byte s 5) (word 8 s 8)) _).0 h.1).0

  writable-at : (n : ℕ) → n ≡ byte s 0 → writable s ≡ rest_at n
  unfolding kind_in route_in record_packet reserved_given type_of
  writable-at n e = writable-is s len small shared ∙ ap (λ (m : ℕ). rest_at m) (sym e)

  memory-at : (n : ℕ) → n ≡ byte s 0 → 1 ≤ n → n ≤ 2 → rest_at n ≡ memory_fits s
  unfolding memory_fits own_bad route_bad
  memory-at zero e l h = absurd (omega arith)
  memory-at (suc zero) e l h =
      rw (request-zero s 1 e, request-over s small, memory-plain _ MRd32 MRd64 refl refl, address-route s 64 (byte s 5) known)
  memory-at (suc (suc zero)) e l h =
      rw (request-zero s 2 e, request-over s small, memory-plain _ MWr32 MWr64 refl refl, address-route s 64 (byte s 5) known)
  memory-at (suc (suc (suc n))) e l h = absurd (omega arith)

  io-at : (n : ℕ) → n ≡ byte s 0 → 3 ≤ n → n ≤ 4 → rest_at n ≡ io_fits s
  unfolding io_fits own_bad route_bad
  io-at zero e l h = absurd (omega arith)
  io-at (suc zero) e l h = absurd (omega arith)
  io-at (suc (suc zero)) e l h = absurd (omega arith)
  io-at (suc (suc (suc zero))) e l h =
      rw (request-zero s 3 e, request-over s small, not-not (eqb (field (byte s 2) 2 1) 0), address-route s 32 (byte s 5) known)
  io-at (suc (suc (suc (suc zero)))) e l h =
      rw (request-zero s 4 e, request-over s small, not-not (eqb (field (byte s 2) 2 1) 0), address-route s 32 (byte s 5) known)
  io-at (suc (suc (suc (suc (suc n))))) e l h = absurd (omega arith)

  config-at : (n : ℕ) → n ≡ byte s 0 → 5 ≤ n → n ≤ 8 → rest_at n ≡ config_fits s
  unfolding config_fits own_bad route_bad
  config-at zero e l h = absurd (omega arith)
  config-at (suc zero) e l h = absurd (omega arith)
  config-at (suc (suc zero)) e l h = absurd (omega arith)
  config-at (suc (suc (suc zero))) e l h = absurd (omega arith)
  config-at (suc (suc (suc (suc zero)))) e l h = absurd (omega arith)
  config-at (suc (suc (suc (suc (suc zero))))) e l h =
      rw (config-zero s 5 e small, config-over s small, not-not (eqb (field (byte s 2) 2 1) 0), id-route s small (byte s 5) known)
  config-at (suc (suc (suc (suc (suc (suc zero)))))) e l h =
      rw (config-zero s 6 e small, config-over s small, not-not (eqb (field (byte s 2) 2 1) 0), id-route s small (byte s 5) known)
  config-at (suc (suc (suc (suc (suc (suc (suc zero))))))) e l h =
      rw (config-zero s 7 e small, config-over s small, not-not (eqb (field (byte s 2) 2 1) 0), id-route s small (byte s 5) known)
  config-at (suc (suc (suc (suc (suc (suc (suc (suc zero)))))))) e l h =
      rw (config-zero s 8 e small, config-over s small, not-not (eqb (field (byte s 2) 2 1) 0), id-route s small (byte s 5) known)
  config-at (suc (suc (suc (suc (suc (suc (suc (suc (suc n))))))))) e l h = absurd (omega arith)

  message-bare : 9 ≡ byte s 0 → rest_at 9 ≡ message_fits false s
  unfolding message_fits own_bad route_bad message_in
  message-bare e =
      rw (message-zero s 9 e 0, message-none s small, message-route s small (byte s 5) known) (regrouped (eqb (word 4 s 28) 0) _ _)

  message-data : 10 ≡ byte s 0 → rest_at 10 ≡ message_fits true s
  unfolding message_fits own_bad route_bad message_in
  message-data e =
      rw (message-zero s 10 e (word 4 s 28), eqb-self (word 4 s 28), message-none s small, message-route s small (byte s 5) known)
      (length-first (outside 1024 (word 4 s 28)) (all_zero (word 4 s 32) (word 8 s 40) (byte s 38) (byte s 39)) false (not (not_message (byte s 5) (word 8 s 8) (word 8 s 16))))

  completion-bare : 11 ≡ byte s 0 → rest_at 11 ≡ completion_fits false s
  unfolding completion_fits own_bad route_bad
  completion-bare e = rw (completion-zero s 11 e small 0, completion-over s small, id-route s small (byte s 5) known)
      (regrouped (eqb (word 4 s 28) 0) (all_zero (byte s 7) (word 8 s 16) (word 2 s 40) (word 8 s 40 % 2 ^ 24) && (leb (byte s 43) 1 && eqb (word 2 s 38) 0)) _ ∙ ap (λ (b : Bool). eqb (word 4 s 28) 0 && b) (regrouped-three (all_zero (byte s 7) (word 8 s 16) (word 2 s 40) (word 8 s 40 % 2 ^ 24)) (leb (byte s 43) 1) (eqb (word 2 s 38) 0) _))

  completion-data : 12 ≡ byte s 0 → rest_at 12 ≡ completion_fits true s
  unfolding completion_fits own_bad route_bad
  completion-data e =
      rw (completion-zero s 12 e small (word 4 s 28), eqb-self (word 4 s 28), completion-over s small, id-route s small (byte s 5) known)
      (length-first (outside 1024 (word 4 s 28)) (all_zero (byte s 7) (word 8 s 16) (word 2 s 40) (word 8 s 40 % 2 ^ 24) && (leb (byte s 43) 1 && eqb (word 2 s 38) 0)) (completion_over (byte s 42) (word 4 s 32) (byte s 44)) _ ∙ ap (λ (b : Bool). not (outside 1024 (word 4 s 28)) && b) (regrouped-three (all_zero (byte s 7) (word 8 s 16) (word 2 s 40) (word 8 s 40 % 2 ^ 24)) (leb (byte s 43) 1) (eqb (word 2 s 38) 0) _))

  module _ (n : ℕ) (e : n ≡ byte s 0) (r : Bool) where
    pub memory-law : 1 ≤ n → n ≤ 2 → r ≡ memory_fits s → r ≡ writable s
    memory-law l h q = q ∙ sym (writable-at n e ∙ memory-at n e l h)

    pub io-law : 3 ≤ n → n ≤ 4 → r ≡ io_fits s → r ≡ writable s
    io-law l h q = q ∙ sym (writable-at n e ∙ io-at n e l h)

    pub config-law : 5 ≤ n → n ≤ 8 → r ≡ config_fits s → r ≡ writable s
    config-law l h q = q ∙ sym (writable-at n e ∙ config-at n e l h)

    pub message-law : 9 ≤ n → n ≤ 10 → r ≡ message_fits (eqb n 10) s → r ≡ writable s
    message-law l h q = by (eqb n 10) refl q
      where
        by : (b : Bool) → eqb n 10 ≡ b → r ≡ message_fits b s → r ≡ writable s
        by true k q = let m : 10 ≡ byte s 0 = omega (arith, eqb-true n 10 k) in q ∙ sym (writable-at 10 m ∙ message-data m)
        by false k q = let m : 9 ≡ byte s 0 = omega (arith, eqb-false n 10 k) in q ∙ sym (writable-at 9 m ∙ message-bare m)

    pub completion-law : 11 ≤ n → n ≤ 12 → r ≡ completion_fits (eqb n 12) s → r ≡ writable s
    completion-law l h q = by (eqb n 12) refl q
      where
        by : (b : Bool) → eqb n 12 ≡ b → r ≡ completion_fits b s → r ≡ writable s
        by true k q = let m : 12 ≡ byte s 0 = omega (arith, eqb-true n 12 k) in q ∙ sym (writable-at 12 m ∙ completion-data m)
        by false k q = let m : 11 ≡ byte s 0 = omega (arith, eqb-false n 12 k) in q ∙ sym (writable-at 11 m ∙ completion-bare m)
