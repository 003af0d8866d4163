-- A record by its fields: bytes are one exactly when each field is what the packet that they describe has there.
use Prim.Native.Nat.{ℕ, zero, suc, ◌+◌, ◌^◌, ◌≤◌, ◌<◌}
use mathlib.Core.Path.{◌≡◌, refl, sym, ap, ◌∙◌}
use mathlib.Core.Bool.{Bool, true, false, ◌&&◌, and-eq-true_iff}
use mathlib.Core.List.{List, [], ◌∷◌, ◌++◌}
use native.Mathlib.Nat.{add-zero, add-suc, suc-add, zero-lt-suc, one-le-pow}
use native.Mathlib.Omega.{arith}
use lib.Dec.{eqb}
use lib.ListN.{length, drop, take-append-drop, drop_of_length-le}
use lib.Seq.{drop-cons, drop-drop}
use borrow.Author.Tests.{eqb-true, eq-eqb}
use Rattle.bits.specs.Choice.{pick, flag}
use Rattle.bits.specs.Word.{byte, word, bytes}
use Rattle.bits.specs.Same.{same_list}
use Rattle.bits.proofs.SameLaws.{same-yes, same_self}
use Rattle.bits.proofs.WordLaws.{AllBytes, word_bytes, word_lt, bytes-word-at}
use Rattle.tlp.specs.declared.packet.Kind.{Kind}
use Rattle.tlp.specs.declared.packet.Route.{Route}
use Rattle.tlp.specs.declared.packet.Packet.{Packet}
use Rattle.tlp_record.specs.Record.{KindFields, request_fields, config_fields, message_fields, completion_fields, fields_of, route_case, route_value, record_with, record_of, request_in, config_in, message_in, completion_in, kind_numbered, kind_in, route_numbered, route_in, record_packet, is_record}

-- ---- several tests

abbrev pub all_true : List Bool → Bool
all_true [] = true
all_true (b ∷ bs) = b && all_true bs

abbrev AllTrue : List Bool → Type 0
AllTrue [] = Unit {0}
AllTrue (b ∷ bs) = (b ≡ true) × AllTrue bs

split-all : (bs : List Bool) → all_true bs ≡ true → AllTrue bs
split-all [] e = tt
split-all (b ∷ bs) e = let h = (and-eq-true_iff b (all_true bs)).0 e in (h.0, split-all bs h.1)

join-all : (bs : List Bool) → AllTrue bs → all_true bs ≡ true
join-all [] e = refl
join-all (b ∷ bs) e = (and-eq-true_iff b (all_true bs)).1 (e.0, join-all bs e.1)

pub same_bool : (a b : Bool) → (a ≡ true → b ≡ true) → (b ≡ true → a ≡ true) → a ≡ b
same_bool true b f g = sym (f refl)
same_bool false true f g = g refl
same_bool false false f g = refl

-- ---- 48 bytes by their fields

-- n bytes from place i on
abbrev single : ℕ → ℕ → List ℕ → List ℕ
single zero i s = []
single (suc n) i s = byte s i ∷ single n (suc i) s

single-at : (n i : ℕ) (s : List ℕ) → i + n ≤ length s → single n i s ++ drop (i + n) s ≡ drop i s
single-at zero i s h = rw add-zero
single-at (suc n) i s h =
    rw (drop-cons s i 0 (omega arith), ← single-at n (suc i) s (omega arith), add-suc, suc-add)

-- what the kind decides on, each field beside what stands there
abbrev pub fields_kept : List ℕ → KindFields → List Bool
fields_kept s f =
    eqb (word 4 s 28) f.length
    ∷ eqb (byte s 0) f.kind
    ∷ eqb (byte s 7) f.code
    ∷ eqb (word 8 s 16) f.body
    ∷ eqb (word 4 s 32) f.byte_count
    ∷ eqb (byte s 40) f.extended_register
    ∷ eqb (byte s 41) f.register
    ∷ eqb (byte s 42) f.status
    ∷ eqb (byte s 43) (flag f.byte_count_modified)
    ∷ eqb (byte s 44) f.lower_address
    ∷ eqb (byte s 45) 0
    ∷ eqb (byte s 46) 0
    ∷ eqb (byte s 47) 0
    ∷ eqb (byte s 38) f.first
    ∷ eqb (byte s 39) f.last
    ∷ []

module _ (s : List ℕ) (len : length s ≡ 48) (small : AllBytes s) where
  word-part : (k i : ℕ) → i + k ≤ 48 → bytes k (word k s i) ++ drop (i + k) s ≡ drop i s
  word-part k i h = rw (bytes-word-at k s i (omega arith) small, ← drop-drop) (take-append-drop k (drop i s))

  fields-whole :
      single 8 0 s
      ++ (bytes 8 (word 8 s 8)
      ++ (bytes 8 (word 8 s 16)
      ++ ((bytes 4 (word 4 s 24) ++ bytes 4 (word 4 s 28))
      ++ ((bytes 4 (word 4 s 32) ++ (bytes 2 (word 2 s 36) ++ single 2 38 s)) ++ single 8 40 s))))
      ≡ s
  fields-whole =
      ap (λ (t : List ℕ). single 8 0 s ++ t) rest ∙ single-at 8 0 s (omega arith)
    where
      rest :
          bytes 8 (word 8 s 8)
          ++ (bytes 8 (word 8 s 16)
          ++ ((bytes 4 (word 4 s 24) ++ bytes 4 (word 4 s 28))
          ++ ((bytes 4 (word 4 s 32) ++ (bytes 2 (word 2 s 36) ++ single 2 38 s)) ++ single 8 40 s)))
          ≡ drop 8 s
      rest =
          let d48 : drop 48 s ≡ [] = drop_of_length-le s {i = 48} (omega arith) in
          rw (
            ← word-part 8 8 (omega arith),
            ← word-part 8 16 (omega arith),
            ← word-part 4 24 (omega arith),
            ← word-part 4 28 (omega arith),
            ← word-part 4 32 (omega arith),
            ← word-part 2 36 (omega arith),
            ← single-at 2 38 s (omega arith),
            ← single-at 8 40 s (omega arith),
            d48,
          )

  module _ (p : Packet) (f : KindFields) where
    abbrev kept : List Bool
    kept = eqb (byte s 3) (flag p.poisoned) ∷ eqb (byte s 4) (flag p.has_digest) ∷ eqb (byte s 5) (route_case p.route) ∷ eqb (word 8 s 8) (route_value p.route) ∷ fields_kept s f

    module _ (tc : p.traffic_class ≡ byte s 1) (at : p.attributes ≡ byte s 2) (dg : p.digest ≡ word 4 s 24) (tg : f.tag ≡ byte s 6)
        (id : f.id ≡ word 2 s 36) where
      kept_same : AllTrue kept → record_with p f ≡ s
      kept_same (b, (c, (d, (g, (i, (a, (e, (h, (j, (m, (n, (o, (q, (r, (t, (u, (v, (k, (l, _))))))))))))))))))) =
          rw (
            ← eqb-true (byte s 0) f.kind a,
            ← eqb-true (byte s 3) (flag p.poisoned) b,
            ← eqb-true (byte s 4) (flag p.has_digest) c,
            ← eqb-true (byte s 5) (route_case p.route) d,
            ← eqb-true (byte s 7) f.code e,
            ← eqb-true (word 8 s 8) (route_value p.route) g,
            ← eqb-true (word 8 s 16) f.body h,
            ← eqb-true (word 4 s 28) f.length i,
            ← eqb-true (word 4 s 32) f.byte_count j,
            ← eqb-true (byte s 38) f.first k,
            ← eqb-true (byte s 39) f.last l,
            ← eqb-true (byte s 40) f.extended_register m,
            ← eqb-true (byte s 41) f.register n,
            ← eqb-true (byte s 42) f.status o,
            ← eqb-true (byte s 43) (flag f.byte_count_modified) q,
            ← eqb-true (byte s 44) f.lower_address r,
            tc,
            at,
            dg,
            tg,
            id,
          ) (rw (eqb-true (byte s 45) 0 t, eqb-true (byte s 46) 0 u, eqb-true (byte s 47) 0 v) at fields-whole)

      same_kept : route_value p.route < 256 ^ 8 → f.body < 256 ^ 8 → f.length < 256 ^ 4 → f.byte_count < 256 ^ 4 → record_with p f ≡ s → AllTrue kept
      same_kept hv hb hl hc e =
          let at : (i : ℕ) → byte (record_with p f) i ≡ byte s i = λ i. ap (λ (l : List ℕ). byte l i) e in
          let in8 : (i : ℕ) → word 8 (record_with p f) i ≡ word 8 s i = λ i. ap (λ (l : List ℕ). word 8 l i) e in
          let in4 : (i : ℕ) → word 4 (record_with p f) i ≡ word 4 s i = λ i. ap (λ (l : List ℕ). word 4 l i) e in (
            eq-eqb _ _ (sym (at 3)),
            (
              eq-eqb _ _ (sym (at 4)),
              (
                eq-eqb _ _ (sym (at 5)),
                (
                  eq-eqb _ _ (sym (in8 8) ∙ word_bytes 8 (route_value p.route) [] hv),
                  (
                    eq-eqb _ _ (sym (in4 28) ∙ word_bytes 4 f.length [] hl),
                    (
                      eq-eqb _ _ (sym (at 0)),
                      (
                        eq-eqb _ _ (sym (at 7)),
                        (
                          eq-eqb _ _ (sym (in8 16) ∙ word_bytes 8 f.body [] hb),
                          (
                            eq-eqb _ _ (sym (in4 32) ∙ word_bytes 4 f.byte_count [] hc),
                            (
                              eq-eqb _ _ (sym (at 40)),
                              (
                                eq-eqb _ _ (sym (at 41)),
                                (
                                  eq-eqb _ _ (sym (at 42)),
                                  (
                                    eq-eqb _ _ (sym (at 43)),
                                    (
                                      eq-eqb _ _ (sym (at 44)),
                                      (
                                        eq-eqb _ _ (sym (at 45)),
                                        (
                                          eq-eqb _ _ (sym (at 46)),
                                          (
                                            eq-eqb _ _ (sym (at 47)),
                                            (
                                              eq-eqb _ _ (sym (at 38)),
                                              (eq-eqb _ _ (sym (at 39)), tt),
                                            ),
                                          ),
                                        ),
                                      ),
                                    ),
                                  ),
                                ),
                              ),
                            ),
                          ),
                        ),
                      ),
                    ),
                  ),
                ),
              ),
            ),
          )

-- ---- what every kind has alike

pick-holds : {A : Type 0} (P : A → Type 0) (b : Bool) (x y : A) → P x → P y → P (pick b x y)
pick-holds P true x y h k = h
pick-holds P false x y h k = k

module _ (s : List ℕ) (small : AllBytes s) where
  record FieldFacts (f : KindFields) : Type 0 where
    tag : f.tag ≡ byte s 6
    id : f.id ≡ word 2 s 36
    body : f.body < 256 ^ 8
    length : f.length < 256 ^ 4
    count : f.byte_count < 256 ^ 4

  zero-fits : (k : ℕ) → 0 < 256 ^ k
  zero-fits k = one-le-pow k 256 (zero-lt-suc 255)

  request-facts : (n : ℕ) → FieldFacts (request_fields n (request_in s))
  unfolding request_in
  request-facts n = record { tag = refl; id = refl; body = zero-fits 8; length = word_lt 4 s 28 small; count = zero-fits 4 }

  config-facts : (n : ℕ) → FieldFacts (config_fields n (config_in s))
  unfolding config_in request_in
  config-facts n = record { tag = refl; id = refl; body = zero-fits 8; length = word_lt 4 s 28 small; count = zero-fits 4 }

  message-facts : (n l : ℕ) → l < 256 ^ 4 → FieldFacts (message_fields n (message_in s) l)
  unfolding message_in
  message-facts n l h = record { tag = refl; id = refl; body = word_lt 8 s 16 small; length = h; count = zero-fits 4 }

  completion-facts : (n l : ℕ) → l < 256 ^ 4 → FieldFacts (completion_fields n (completion_in s) l)
  unfolding completion_in
  completion-facts n l h = record { tag = refl; id = refl; body = zero-fits 8; length = h; count = word_lt 4 s 32 small }

  field-facts : (n : ℕ) → FieldFacts (fields_of (kind_numbered n s))
  field-facts n =
      let P : Kind → Type 0 = λ k. FieldFacts (fields_of k) in
      let w = word_lt 4 s 28 small in
      pick-holds P (eqb n 2) _ _ (request-facts 2)
      (pick-holds P (eqb n 3) _ _ (request-facts 3)
      (pick-holds P (eqb n 4) _ _ (request-facts 4)
      (pick-holds P (eqb n 5) _ _ (config-facts 5)
      (pick-holds P (eqb n 6) _ _ (config-facts 6)
      (pick-holds P (eqb n 7) _ _ (config-facts 7)
      (pick-holds P (eqb n 8) _ _ (config-facts 8)
      (pick-holds P (eqb n 9) _ _ (message-facts 9 0 (zero-fits 4))
      (pick-holds P (eqb n 10) _ _ (message-facts 10 (word 4 s 28) w)
      (pick-holds P (eqb n 11) _ _ (completion-facts 11 0 (zero-fits 4))
      (pick-holds P (eqb n 12) _ _ (completion-facts 12 (word 4 s 28) w)
      (request-facts 1)))))))))))

  value-fits : (n : ℕ) → route_value (route_numbered n s) < 256 ^ 8
  value-fits n =
      let P : Route → Type 0 = λ r. route_value r < 256 ^ 8 in
      pick-holds P (eqb n 1) _ _ (omega (arith, word_lt 2 s 14 small))
      (pick-holds P (eqb n 2) _ _ (zero-fits 8)
      (pick-holds P (eqb n 3) _ _ (zero-fits 8)
      (pick-holds P (eqb n 4) _ _ (zero-fits 8)
      (pick-holds P (eqb n 5) _ _ (zero-fits 8)
      (word_lt 8 s 8 small)))))

  pub record-kept : length s ≡ 48
      → is_record s
      ≡ (eqb (byte s 3) (flag (eqb (byte s 3) 1))
      && (eqb (byte s 4) (flag (eqb (byte s 4) 1))
      && (eqb (byte s 5) (route_case (route_numbered (byte s 5) s))
      && (eqb (word 8 s 8) (route_value (route_numbered (byte s 5) s))
      && all_true (fields_kept s (fields_of (kind_numbered (byte s 0) s)))))))
  unfolding is_record record_of record_packet kind_in route_in
  record-kept len =
      let p = record_packet s in
      let f = fields_of (kind_numbered (byte s 0) s) in
      let o = field-facts (byte s 0) in
      same_bool (same_list (record_with p f) s) (all_true (kept s len small p f))
      (λ e. join-all (kept s len small p f) (same_kept s len small p f refl refl refl o.tag o.id (value-fits (byte s 5)) o.body o.length o.count (same-yes (record_with p f) s e)))
      (λ k. ap (λ (l : List ℕ). same_list l s) (kept_same s len small p f refl refl refl o.tag o.id (split-all (kept s len small p f) k)) ∙ same_self s)
