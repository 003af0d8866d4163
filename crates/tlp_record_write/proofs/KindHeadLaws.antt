-- What a record's kind decides is what the packet that it describes has.
use Prim.Native.Nat.{ℕ, zero, suc, ◌%◌, ◌^◌, ◌≤◌}
use mathlib.Core.Path.{◌≡◌, refl, sym, ap, ◌∙◌}
use mathlib.Core.Bool.{Bool, true, false, ◌&&◌, ◌||◌, not, true≢false, and-eq-true_iff}
use mathlib.Core.List.{List, ◌++◌}
use native.Mathlib.Omega.{arith}
use lib.Dec.{eqb, leb, ltb}
use lib.ListN.{length}
use borrow.Author.Tests.{eqb-true, eqb-false, not-true, not-false}
use Rattle.std.specs.Prelude.{Some, None}
use Rattle.bits.specs.Choice.{pick}
use Rattle.bits.specs.Field.{field}
use Rattle.bits.specs.Word.{byte, word, bytes, Bytes}
use Rattle.bits.proofs.ChoiceLaws.{pick-ap}
use Rattle.byte_enables.specs.declared.Access.{Access}
use Rattle.tlp.specs.Rows.{first}
use Rattle.tlp.specs.Refusals.{checked}
use Rattle.tlp.specs.declared.refusal.Refusal.{Refusal}
use Rattle.std.specs.Prelude.{Result, Ok}
use Rattle.tlp.specs.PacketTypes.{family_of}
use Rattle.tlp.specs.Packets.{address_of, type_in, type_of, access_at, access_in, access_of}
use Rattle.tlp.specs.Contents.{plain_bad, enables_bad, page_bad, fault_rows}
use Rattle.tlp.specs.Inner.Contents.{memory_rows, register_rows}
use Rattle.tlp.specs.declared.packet.Route.{Route}
use Rattle.tlp.specs.declared.packet.Route.TheVariants.{Address, Id, Implicit as Implied}
use Rattle.tlp.specs.declared.packet.Implicit.TheVariants.{Root, Broadcast, Local, Gathered}
use Rattle.tlp.specs.declared.packet.Request.{Request}
use Rattle.tlp.specs.declared.packet.ConfigRequest.{ConfigRequest}
use Rattle.tlp.specs.declared.packet.MessageRequest.{MessageRequest}
use Rattle.tlp.specs.declared.packet.CompletionHeader.{CompletionHeader}
use Rattle.tlp.specs.declared.packet.Kind.{Kind}
use Rattle.tlp.specs.declared.packet.Kind.TheVariants.{MemoryRead, MemoryWrite, IoRead, IoWrite, ConfigRead0, ConfigWrite0, ConfigRead1, ConfigWrite1, Message, MessageData, Completion, CompletionData}
use Rattle.tlp.specs.declared.packet_type.PacketType.{PacketType}
use Rattle.tlp.specs.declared.packet_type.PacketType.TheVariants.{MRd32, MRd64, MWr32, MWr64, IORd, IOWr, Msg, MsgD, Cpl, CplD}
use Rattle.tlp.specs.declared.packet_type.Family.{Family}
use Rattle.tlp.specs.declared.packet_type.Family.TheVariants.{Memory}
use Rattle.tlp_write.specs.Layout.{routing, routing_in, request_bytes, memory_address, config_bytes, message_bytes, completion_bytes, own_bytes}
use Rattle.tlp_write.specs.Inner.Padded.{padded}
use Rattle.tlp_write.specs.Inner.Head.{word_bytes}
use Rattle.tlp_record.specs.Record.{request_in, config_in, message_in, completion_in, kind_numbered, kind_in, route_numbered, route_in, record_packet}
use Rattle.tlp_record_write.specs.Inner.Fit.{writable}
use Rattle.tlp_record_write.specs.Inner.Kinds.{all_zero, request_over, config_over, completion_over, length_kept, not_address, memory_fits, io_fits, config_fits, message_fits, completion_fits}
use Rattle.tlp_record_write.specs.Inner.KindHead.{memory_type, config_type, case_routing, KindCase, IsKindHead, JudgedHead}
use Rattle.tlp_record_write.specs.declared.kind_head.KindHead.{KindHead}
use Rattle.tlp_record_write.proofs.Families.{memory-law, io-law, config-law, message-law, completion-law}

-- ---- from a route and a kind

module _ (s : List ℕ) (o : KindHead) (r : Route) (k : Kind) (er : route_in s ≡ r) (ek : kind_in s ≡ k) where
  head_of : o.packet_type ≡ type_in (address_of r) k → o.routing ≡ routing_in r k
      → o.fault ≡ checked (first (fault_rows (family_of (type_in (address_of r) k)) (access_in (address_of r) k) (byte s 1) (byte s 2) 0))
      → word_bytes o.words ≡ padded 12 (own_bytes r k) → word 4 s 28 ≡ (access_in (address_of r) k).length → IsKindHead o s
  unfolding type_of access_of record_packet
  head_of et eg ef ew el = record {
    type_is = rw (er, ek) et;
    routing_is = rw (er, ek) eg;
    fault_is = rw (er, ek) ef;
    words_are = rw (er, ek) ew;
    length_is = rw (er, ek) el;
  }

module _ (s : List ℕ) where
  kind_at : (n : ℕ) → n ≡ byte s 0 → kind_in s ≡ kind_numbered n s
  unfolding kind_in
  kind_at n e = ap (λ (m : ℕ). kind_numbered m s) (sym e)

  route-at : (n : ℕ) → byte s 5 ≡ n → route_in s ≡ route_numbered n s
  unfolding route_in
  route-at n e = ap (λ (m : ℕ). route_numbered m s) e

-- ---- what a record that can be written says of its route

not-not-or : (b c : Bool) → not (not b || c) ≡ true → b ≡ true
not-not-or true c e = refl
not-not-or false c e = absurd (true≢false (sym e))

right : (a b : Bool) → a && b ≡ true → b ≡ true
right a b e = ((and-eq-true_iff a b).0 e).1

module _ (s : List ℕ) where
  by_address : (w : ℕ) → not (not_address w (byte s 5) (word 8 s 8)) ≡ true → route_in s ≡ Address (word 8 s 8)
  by_address w h = route-at s 0 (eqb-true (byte s 5) 0 (not-not-or (eqb (byte s 5) 0) _ h))

  by-id : eqb (byte s 5) 1 ≡ true → route_in s ≡ Id (word 2 s 14)
  by-id h = route-at s 1 (eqb-true (byte s 5) 1 h)

  memory-route : memory_fits s ≡ true → route_in s ≡ Address (word 8 s 8)
  unfolding memory_fits
  memory-route h =
      let a = not (not_address 64 (byte s 5) (word 8 s 8)) in
      let b = not (request_over (word 4 s 28) (byte s 38) (byte s 39)) in
      by_address 64 (right b a (right (all_zero (byte s 7) (word 8 s 16) (word 4 s 32) (word 8 s 40)) (b && a) h))

  io-route : io_fits s ≡ true → route_in s ≡ Address (word 8 s 8)
  unfolding io_fits
  io-route h =
      let a = not (not_address 32 (byte s 5) (word 8 s 8)) in
      let b = eqb (field (byte s 2) 2 1) 0 in
      let c = not (request_over (word 4 s 28) (byte s 38) (byte s 39)) in
      by_address 32 (right b a (right c (b && a) (right (all_zero (byte s 7) (word 8 s 16) (word 4 s 32) (word 8 s 40)) (c && (b && a)) h)))

  config-route : config_fits s ≡ true → route_in s ≡ Id (word 2 s 14)
  unfolding config_fits
  config-route h =
      let a = eqb (byte s 5) 1 in
      let b = eqb (field (byte s 2) 2 1) 0 in
      let c = not (config_over (byte s 40) (byte s 41) (request_over (word 4 s 28) (byte s 38) (byte s 39))) in
      by-id (right b a (right c (b && a) (right (all_zero (byte s 7) (word 8 s 16) (word 4 s 32) (word 8 s 40 % 2 ^ 48)) (c && (b && a)) h)))

  completion-route : (has : Bool) → completion_fits has s ≡ true → route_in s ≡ Id (word 2 s 14)
  unfolding completion_fits
  completion-route has h =
      let a = eqb (byte s 5) 1 in
      let b = not (completion_over (byte s 42) (word 4 s 32) (byte s 44)) && a in
      let c = eqb (word 2 s 38) 0 && b in
      let d = leb (byte s 43) 1 && c in
      let f = all_zero (byte s 7) (word 8 s 16) (word 2 s 40) (word 8 s 40 % 2 ^ 24) && d in
      by-id
      (right (not (completion_over (byte s 42) (word 4 s 32) (byte s 44))) a
      (right (eqb (word 2 s 38) 0) b
      (right (leb (byte s 43) 1) c
      (right (all_zero (byte s 7) (word 8 s 16) (word 2 s 40) (word 8 s 40 % 2 ^ 24)) d
      (right (length_kept has (word 4 s 28)) f h)))))

  message-bare-length : message_fits false s ≡ true → word 4 s 28 ≡ 0
  unfolding message_fits
  message-bare-length h = eqb-true (word 4 s 28) 0 ((and-eq-true_iff (eqb (word 4 s 28) 0) _).0 h).0

  completion-bare-length : completion_fits false s ≡ true → word 4 s 28 ≡ 0
  unfolding completion_fits
  completion-bare-length h = eqb-true (word 4 s 28) 0 ((and-eq-true_iff (eqb (word 4 s 28) 0) _).0 h).0

-- ---- the families

memory-family : (b : Bool) (x y : PacketType) → family_of x ≡ Memory → family_of y ≡ Memory → family_of (pick b x y) ≡ Memory
memory-family true x y e h = e
memory-family false x y e h = h

memory-faults : (f : Family) (a : Access) (tc attr : ℕ) (m : Result Unit Refusal) → f ≡ Memory → m ≡ checked (first (memory_rows a)) → m ≡ checked (first (fault_rows f a tc attr 0))
unfolding first plain_bad enables_bad page_bad
memory-faults f a tc attr m e q = rw e q

module _ (s : List ℕ) (o : KindHead) (n : ℕ) (e : n ≡ byte s 0) where
  module _ (q : Request) (v : ℕ) (a : Access) (eq : q ≡ request_in s) (ev : v ≡ word 8 s 8) (ea : a ≡ access_at v q) where
    access-is : a ≡ access_at (word 8 s 8) (request_in s)
    access-is = rw (← ev, ← eq) ea

    memory-head : 1 ≤ n → n ≤ 2 → memory_fits s ≡ true → o.packet_type ≡ memory_type n v → o.routing ≡ 0 → o.fault ≡ checked (first (memory_rows a))
        → word_bytes o.words ≡ padded 12 (request_bytes q ++ memory_address v) → IsKindHead o s
    unfolding routing_in own_bytes request_in
    memory-head l h fits et eg ef ew = by n refl
      where
        words : word_bytes o.words ≡ padded 12 (request_bytes (request_in s) ++ memory_address (word 8 s 8))
        words = ew ∙ ap (λ (x : Request). padded 12 (request_bytes x ++ memory_address v)) eq ∙ ap (λ (x : ℕ). padded 12 (request_bytes (request_in s) ++ memory_address x)) ev

        faults : o.fault ≡ checked (first (memory_rows (access_at (word 8 s 8) (request_in s))))
        faults = ef ∙ ap (λ (x : Access). checked (first (memory_rows x))) access-is

        by : (m : ℕ) → n ≡ m → IsKindHead o s
        by zero k = absurd (omega (arith, l, k))
        by (suc zero) k =
            head_of s o (Address (word 8 s 8)) (MemoryRead (request_in s)) (memory-route s fits) (kind_at s 1 (sym k ∙ e))
            (et ∙ rw (k, ev)) eg
            (memory-faults _ _ (byte s 1) (byte s 2) o.fault (memory-family (ltb (word 8 s 8) (2 ^ 32)) MRd32 MRd64 refl refl) faults)
            words refl
        by (suc (suc zero)) k =
            head_of s o (Address (word 8 s 8)) (MemoryWrite (request_in s)) (memory-route s fits) (kind_at s 2 (sym k ∙ e))
            (et ∙ rw (k, ev)) eg
            (memory-faults _ _ (byte s 1) (byte s 2) o.fault (memory-family (ltb (word 8 s 8) (2 ^ 32)) MWr32 MWr64 refl refl) faults)
            words refl
        by (suc (suc (suc m))) k = absurd (omega (arith, h, k))

    io-head : 3 ≤ n → n ≤ 4 → io_fits s ≡ true → o.packet_type ≡ pick (eqb n 3) IORd IOWr → o.routing ≡ 0
        → o.fault ≡ checked (first (register_rows a (byte s 1) (byte s 2) 0)) → word_bytes o.words ≡ padded 12 (request_bytes q ++ bytes 4 v) → IsKindHead o s
    unfolding routing_in own_bytes request_in first plain_bad enables_bad page_bad
    io-head l h fits et eg ef ew = by n refl
      where
        words : word_bytes o.words ≡ padded 12 (request_bytes (request_in s) ++ bytes 4 (word 8 s 8))
        words = ew ∙ ap (λ (x : Request). padded 12 (request_bytes x ++ bytes 4 v)) eq ∙ ap (λ (x : ℕ). padded 12 (request_bytes (request_in s) ++ bytes 4 x)) ev

        faults : o.fault ≡ checked (first (register_rows (access_at (word 8 s 8) (request_in s)) (byte s 1) (byte s 2) 0))
        faults = ef ∙ ap (λ (x : Access). checked (first (register_rows x (byte s 1) (byte s 2) 0))) access-is

        by : (m : ℕ) → n ≡ m → IsKindHead o s
        by zero k = absurd (omega (arith, l, k))
        by (suc zero) k = absurd (omega (arith, l, k))
        by (suc (suc zero)) k = absurd (omega (arith, l, k))
        by (suc (suc (suc zero))) k =
            head_of s o (Address (word 8 s 8)) (IoRead (request_in s)) (io-route s fits) (kind_at s 3 (sym k ∙ e)) (et ∙ rw k) eg faults words refl
        by (suc (suc (suc (suc zero)))) k =
            head_of s o (Address (word 8 s 8)) (IoWrite (request_in s)) (io-route s fits) (kind_at s 4 (sym k ∙ e)) (et ∙ rw k) eg faults words refl
        by (suc (suc (suc (suc (suc m))))) k = absurd (omega (arith, h, k))

  config-head : (q : ConfigRequest) (i : ℕ) (a : Access) → q ≡ config_in s → i ≡ word 2 s 14 → a ≡ access_at 0 q.request
      → 5 ≤ n → n ≤ 8 → config_fits s ≡ true → o.packet_type ≡ config_type n → o.routing ≡ 0 → o.fault ≡ checked (first (register_rows a (byte s 1) (byte s 2) 0))
      → word_bytes o.words ≡ padded 12 (config_bytes i q) → IsKindHead o s
  unfolding routing_in own_bytes config_in request_in first plain_bad enables_bad page_bad
  config-head q i a eq ei ea l h fits et eg ef ew = by n refl
    where
      words : word_bytes o.words ≡ padded 12 (config_bytes (word 2 s 14) (config_in s))
      words = ew ∙ ap (λ (x : ConfigRequest). padded 12 (config_bytes i x)) eq ∙ ap (λ (x : ℕ). padded 12 (config_bytes x (config_in s))) ei

      faults : o.fault ≡ checked (first (register_rows (access_at 0 (config_in s).request) (byte s 1) (byte s 2) 0))
      faults =
          ef
          ∙ ap (λ (x : Access). checked (first (register_rows x (byte s 1) (byte s 2) 0))) (ea ∙ ap (λ (x : ConfigRequest). access_at 0 x.request) eq)

      by : (m : ℕ) → n ≡ m → IsKindHead o s
      by zero k = absurd (omega (arith, l, k))
      by (suc zero) k = absurd (omega (arith, l, k))
      by (suc (suc zero)) k = absurd (omega (arith, l, k))
      by (suc (suc (suc zero))) k = absurd (omega (arith, l, k))
      by (suc (suc (suc (suc zero)))) k = absurd (omega (arith, l, k))
      by (suc (suc (suc (suc (suc zero))))) k =
          head_of s o (Id (word 2 s 14)) (ConfigRead0 (config_in s)) (config-route s fits) (kind_at s 5 (sym k ∙ e)) (et ∙ rw k) eg faults words refl
      by (suc (suc (suc (suc (suc (suc zero)))))) k =
          head_of s o (Id (word 2 s 14)) (ConfigWrite0 (config_in s)) (config-route s fits) (kind_at s 6 (sym k ∙ e)) (et ∙ rw k) eg faults words refl
      by (suc (suc (suc (suc (suc (suc (suc zero))))))) k =
          head_of s o (Id (word 2 s 14)) (ConfigRead1 (config_in s)) (config-route s fits) (kind_at s 7 (sym k ∙ e)) (et ∙ rw k) eg faults words refl
      by (suc (suc (suc (suc (suc (suc (suc (suc zero)))))))) k =
          head_of s o (Id (word 2 s 14)) (ConfigWrite1 (config_in s)) (config-route s fits) (kind_at s 8 (sym k ∙ e)) (et ∙ rw k) eg faults words refl
      by (suc (suc (suc (suc (suc (suc (suc (suc (suc m))))))))) k = absurd (omega (arith, h, k))

  -- a message's routing is that of its route
  routing-at : (m : ℕ) → routing (route_numbered m s) ≡ case_routing m
  routing-at m =
      rw (
        pick-ap routing (eqb m 1) (Id (word 2 s 14)) _,
        pick-ap routing (eqb m 2) (Implied Root) _,
        pick-ap routing (eqb m 3) (Implied Broadcast) _,
        pick-ap routing (eqb m 4) (Implied Local) _,
        pick-ap routing (eqb m 5) (Implied Gathered) _,
      )

  message-head : (m : MessageRequest) → m ≡ message_in s → 9 ≤ n → n ≤ 10 → message_fits (eqb n 10) s ≡ true
      → o.packet_type ≡ pick (eqb n 10) MsgD Msg → o.routing ≡ case_routing (byte s 5) → o.fault ≡ Ok tt → word_bytes o.words ≡ message_bytes m → IsKindHead o s
  unfolding routing_in own_bytes first plain_bad enables_bad page_bad
  message-head m em l h fits et eg ef ew = by (eqb n 10) refl
    where
      routes : o.routing ≡ routing (route_numbered (byte s 5) s)
      routes = eg ∙ sym (routing-at (byte s 5))

      words : word_bytes o.words ≡ message_bytes (message_in s)
      words = ew ∙ ap (λ (x : MessageRequest). message_bytes x) em

      by : (b : Bool) → eqb n 10 ≡ b → IsKindHead o s
      by true k =
          let j : n ≡ 10 = eqb-true n 10 k in
          let m : 10 ≡ byte s 0 = sym j ∙ e in
          head_of s o (route_numbered (byte s 5) s) (MessageData (message_in s) (word 4 s 28)) (route-at s (byte s 5) refl) (kind_at s 10 m) (et ∙ rw j) routes ef words refl
      by false k =
          let j : n ≡ 9 = omega (arith, eqb-false n 10 k, l, h) in
          let m : 9 ≡ byte s 0 = sym j ∙ e in
          head_of s o (route_numbered (byte s 5) s) (Message (message_in s)) (route-at s (byte s 5) refl) (kind_at s 9 m) (et ∙ rw j) routes ef words (message-bare-length s (rw k at fits))

  completion-head : (c : CompletionHeader) (i : ℕ) → c ≡ completion_in s → i ≡ word 2 s 14 → 11 ≤ n → n ≤ 12 → completion_fits (eqb n 12) s ≡ true
      → o.packet_type ≡ pick (eqb n 12) CplD Cpl → o.routing ≡ 0 → o.fault ≡ Ok tt → word_bytes o.words ≡ padded 12 (completion_bytes i c) → IsKindHead o s
  unfolding routing_in own_bytes first plain_bad enables_bad page_bad
  completion-head c i ec ei l h fits et eg ef ew = by (eqb n 12) refl
    where
      words : word_bytes o.words ≡ padded 12 (completion_bytes (word 2 s 14) (completion_in s))
      words = ew ∙ ap (λ (x : CompletionHeader). padded 12 (completion_bytes i x)) ec ∙ ap (λ (x : ℕ). padded 12 (completion_bytes x (completion_in s))) ei

      by : (b : Bool) → eqb n 12 ≡ b → IsKindHead o s
      by true k =
          let j : n ≡ 12 = eqb-true n 12 k in
          let m : 12 ≡ byte s 0 = sym j ∙ e in
          head_of s o (Id (word 2 s 14)) (CompletionData (completion_in s) (word 4 s 28)) (completion-route s _ fits) (kind_at s 12 m) (et ∙ rw j) eg ef words refl
      by false k =
          let j : n ≡ 11 = omega (arith, eqb-false n 12 k, l, h) in
          let m : 11 ≡ byte s 0 = sym j ∙ e in
          head_of s o (Id (word 2 s 14)) (Completion (completion_in s)) (completion-route s _ fits) (kind_at s 11 m) (et ∙ rw j) eg ef words (completion-bare-length s (rw k at fits))

-- ---- in the words of the returns, b whether the record fits

module _ (s : List ℕ) (len : length s ≡ 48) (each : Bytes s) (b : Bool) where
  unfit : b ≡ writable s → not b ≡ true → JudgedHead None s
  unfit e h = sym e ∙ not-true b h

  fit : b ≡ writable s → not b ≡ false → (o : KindHead) → IsKindHead o s → JudgedHead (Some o) s
  fit e h o i = (sym e ∙ not-false b h, i)

  module _ (k : KindCase 1 2 s) (eb : b ≡ memory_fits s) where
    memory-written : b ≡ writable s
    memory-written = memory-law s len each k.shared (byte s 0) refl b k.from k.upto eb

    pub memory-none : not b ≡ true → JudgedHead None s
    memory-none h = unfit memory-written h

    pub memory-some : (q : Request) (v : ℕ) (a : Access) (o : KindHead) → not b ≡ false → q ≡ request_in s → v ≡ word 8 s 8 → a ≡ access_at v q
        → o.packet_type ≡ memory_type (byte s 0) v → o.routing ≡ 0 → o.fault ≡ checked (first (memory_rows a))
        → word_bytes o.words ≡ padded 12 (request_bytes q ++ memory_address v) → JudgedHead (Some o) s
    memory-some q v a o h eq ev ea et eg ef ew =
        fit memory-written h o (memory-head s o (byte s 0) refl q v a eq ev ea k.from k.upto (sym eb ∙ not-false b h) et eg ef ew)

  module _ (k : KindCase 3 4 s) (eb : b ≡ io_fits s) where
    io-written : b ≡ writable s
    io-written = io-law s len each k.shared (byte s 0) refl b k.from k.upto eb

    pub io-none : not b ≡ true → JudgedHead None s
    io-none h = unfit io-written h

    pub io-some : (q : Request) (v : ℕ) (a : Access) (o : KindHead) → not b ≡ false → q ≡ request_in s → v ≡ word 8 s 8 → a ≡ access_at v q
        → o.packet_type ≡ pick (eqb (byte s 0) 3) IORd IOWr → o.routing ≡ 0 → o.fault ≡ checked (first (register_rows a (byte s 1) (byte s 2) 0))
        → word_bytes o.words ≡ padded 12 (request_bytes q ++ bytes 4 v) → JudgedHead (Some o) s
    io-some q v a o h eq ev ea et eg ef ew =
        fit io-written h o (io-head s o (byte s 0) refl q v a eq ev ea k.from k.upto (sym eb ∙ not-false b h) et eg ef ew)

  module _ (k : KindCase 5 8 s) (eb : b ≡ config_fits s) where
    config-written : b ≡ writable s
    config-written = config-law s len each k.shared (byte s 0) refl b k.from k.upto eb

    pub config-none : not b ≡ true → JudgedHead None s
    config-none h = unfit config-written h

    pub config-some : (q : ConfigRequest) (i : ℕ) (a : Access) (o : KindHead) → not b ≡ false → q ≡ config_in s → i ≡ word 2 s 14 → a ≡ access_at 0 q.request
        → o.packet_type ≡ config_type (byte s 0) → o.routing ≡ 0 → o.fault ≡ checked (first (register_rows a (byte s 1) (byte s 2) 0))
        → word_bytes o.words ≡ padded 12 (config_bytes i q) → JudgedHead (Some o) s
    config-some q i a o h eq ei ea et eg ef ew =
        fit config-written h o (config-head s o (byte s 0) refl q i a eq ei ea k.from k.upto (sym eb ∙ not-false b h) et eg ef ew)

  module _ (k : KindCase 9 10 s) (eb : b ≡ message_fits (eqb (byte s 0) 10) s) where
    message-written : b ≡ writable s
    message-written = message-law s len each k.shared (byte s 0) refl b k.from k.upto eb

    pub message-none : not b ≡ true → JudgedHead None s
    message-none h = unfit message-written h

    pub message-some : (m : MessageRequest) (o : KindHead) → not b ≡ false → m ≡ message_in s → o.packet_type ≡ pick (eqb (byte s 0) 10) MsgD Msg
        → o.routing ≡ case_routing (byte s 5) → o.fault ≡ Ok tt → word_bytes o.words ≡ message_bytes m → JudgedHead (Some o) s
    message-some m o h em et eg ef ew =
        fit message-written h o (message-head s o (byte s 0) refl m em k.from k.upto (sym eb ∙ not-false b h) et eg ef ew)

  module _ (k : KindCase 11 12 s) (eb : b ≡ completion_fits (eqb (byte s 0) 12) s) where
    completion-written : b ≡ writable s
    completion-written = completion-law s len each k.shared (byte s 0) refl b k.from k.upto eb

    pub completion-none : not b ≡ true → JudgedHead None s
    completion-none h = unfit completion-written h

    pub completion-some : (c : CompletionHeader) (i : ℕ) (o : KindHead) → not b ≡ false → c ≡ completion_in s → i ≡ word 2 s 14
        → o.packet_type ≡ pick (eqb (byte s 0) 12) CplD Cpl → o.routing ≡ 0 → o.fault ≡ Ok tt → word_bytes o.words ≡ padded 12 (completion_bytes i c) → JudgedHead (Some o) s
    completion-some c i o h ec ei et eg ef ew =
        fit completion-written h o (completion-head s o (byte s 0) refl c i ec ei k.from k.upto (sym eb ∙ not-false b h) et eg ef ew)
