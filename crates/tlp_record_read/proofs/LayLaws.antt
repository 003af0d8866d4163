-- One law for each return of the functions that lay a record, in the words of the calls before it.
use Prim.Native.Nat.{ℕ, zero, suc, ◌+◌, ◌-◌, ◌*◌, ◌/◌, ◌%◌, ◌≤◌, ◌<◌}
use native.Mathlib.Omega.{arith}
use native.Mathlib.Nat.{zero-add}
use mathlib.Core.Path.{◌≡◌, refl, sym, ap, ◌∙◌}
use mathlib.Core.Bool.{Bool, true, false}
use mathlib.Core.List.{List, [], ◌∷◌, ◌++◌, append_assoc}
use lib.Dec.{eqb}
use lib.ListN.{length, take, drop, length-append}
use lib.Seq.{sets, sets-eq, length-sets}
use Rattle.bits.specs.Choice.{pick, flag}
use Rattle.bits.specs.Word.{byte, word, bytes, Bytes}
use Rattle.bits.specs.Put.{put, over_front}
use Rattle.bits.proofs.WordLaws.{AllBytes, bytes_word}
use borrow.Rule.Slice.PartMut.{put_mid}
use Rattle.tlp.specs.PacketTypes.{type_at, packet_type_at, header_dw, has_data, family_of, is_unlisted}
use Rattle.tlp.specs.Packets.{address_of}
use Rattle.tlp.specs.Sizes.{length_at}
use Rattle.tlp.specs.declared.packet_type.Family.{Family}
use Rattle.tlp.specs.declared.packet_type.Family.TheVariants.{Memory, Io, Config, Message, Completion, Unlisted as NoFamily}
use Rattle.tlp.specs.declared.packet_type.PacketType.{PacketType}
use Rattle.tlp.proofs.FmtLaws.{each-type}
use Rattle.tlp.proofs.FamilyLaws.{other, memory-types, io-types, config-types, message-types, completion-types}
use Rattle.tlp_read.specs.Fields.{low_attributes_at, all_attributes_at, attributes_at, digest_word}
use Rattle.tlp_read.specs.Fields.{requester_at, tag_at, address_at, route_id_at, code_at, body_at}
use Rattle.tlp_read.specs.Fields.{completer_at, byte_count_field_at, completion_tag_at}
use Rattle.tlp_read.specs.Fields.{request_at, config_at, message_at, completion_at, message_route_at, route_at, kind_at, packet_at}
use Rattle.tlp_read.specs.Inner.Rows.{family_at, address_read}
use Rattle.tlp_read.proofs.ReadReturns.{address-wide, address-narrow}
use Rattle.bits.proofs.PutLaws.{copied_part, put_front, put_next}
use Rattle.tlp_record.specs.Record.{fields_of, route_case, route_value, sizes_part, record_of}
use Rattle.tlp_record_read.specs.Inner.Lay.{front_read, data_flag, kind_read, length_given, request_part, counted_part, registers_part, status_part, record_read, record_laid}

abbrev front_of : ℕ → ℕ → ℕ → ℕ → ℕ → List ℕ → List ℕ
front_of k a r t c packet = front_read (record { kind = k; attributes = a; route = r; tag = t; code = c }) packet

-- ---- laying

put-sets : (at : ℕ) (xs out : List ℕ) → at + length xs ≤ length out → put at xs out ≡ sets out at xs
unfolding put
put-sets at xs out h = sym (sets-eq xs out at h ∙ append_assoc (take at out) xs (drop (at + length xs) out))

-- a number's four bytes
pub number-copied : (at n : ℕ) (src out last : List ℕ) → src ≡ bytes 4 n → last ≡ src → put_mid at (at + 4 - at) out last ≡ put at (bytes 4 n) out
number-copied at n src out last e q = copied_part at 4 (bytes 4 n) out last refl (q ∙ e)

pub sizes-laid : (d n : ℕ) (z r t : List ℕ) → length z ≡ 48 → r ≡ put 24 (bytes 4 d) z → t ≡ put 28 (bytes 4 n) r → t ≡ put 24 (sizes_part d n) z
sizes-laid d n z r t l er et =
    et ∙ ap (put 28 (bytes 4 n)) (er ∙ put-sets 24 (bytes 4 d) z (omega (arith, l)))
    ∙ put-sets 28 (bytes 4 n) (sets z 24 (bytes 4 d)) (rw (length-sets z 24 (bytes 4 d)) (omega (arith, l)))
    ∙ sym (put-sets 24 (bytes 4 d ++ bytes 4 n) z (omega (arith, l)))

next : (n : ℕ) (x y out r s : List ℕ) → length x ≡ n → r ≡ put 0 x out → s ≡ put n y r → s ≡ put 0 (x ++ y) out
next n x y out r s l e q = q ∙ rw (e, ← l) (put_next x y out)

parts-laid : (a b c d e f z : List ℕ) → length a ≡ 8 → length b ≡ 8 → length c ≡ 8 → length d ≡ 8 → length e ≡ 8
    → put 40 f (put 32 e (put 24 d (put 16 c (put 8 b (put 0 a z))))) ≡ over_front (a ++ (b ++ (c ++ (d ++ (e ++ f))))) z
parts-laid a b c d e f z la lb lc ld le =
    let l2 : length (a ++ b) ≡ 16 = simp length-append (omega arith) in
    let l3 : length ((a ++ b) ++ c) ≡ 24 = simp length-append (omega arith) in
    let l4 : length (((a ++ b) ++ c) ++ d) ≡ 32 = simp length-append (omega arith) in
    let l5 : length ((((a ++ b) ++ c) ++ d) ++ e) ≡ 40 = simp length-append (omega arith) in
    let x2 = next 8 a b z _ _ la refl refl in
    let x3 = next 16 (a ++ b) c z _ _ l2 x2 refl in
    let x4 = next 24 ((a ++ b) ++ c) d z _ _ l3 x3 refl in
    let x5 = next 32 (((a ++ b) ++ c) ++ d) e z _ _ l4 x4 refl in
    let x6 = next 40 ((((a ++ b) ++ c) ++ d) ++ e) f z _ _ l5 x5 refl in
    let whole : ((((a ++ b) ++ c) ++ d) ++ e) ++ f ≡ a ++ (b ++ (c ++ (d ++ (e ++ f)))) = simp append_assoc in
    x6 ∙ put_front (((((a ++ b) ++ c) ++ d) ++ e) ++ f) z ∙ ap (λ (l : List ℕ). over_front l z) whole

all_laid : (a b c d e f z r s t o : List ℕ) → length a ≡ 8 → length b ≡ 8 → length c ≡ 8 → length d ≡ 8 → length e ≡ 8 → r ≡ put 0 a z → s ≡ put 16 c (put 8 b r) → t ≡ put 32 e (put 24 d s) → o ≡ put 40 f t
    → o ≡ over_front (a ++ (b ++ (c ++ (d ++ (e ++ f))))) z
all_laid a b c d e f z r s t o la lb lc ld le er es et eo =
    eo ∙ ap (put 40 f) (et ∙ ap (λ (l : List ℕ). put 32 e (put 24 d l)) (es ∙ ap (λ (l : List ℕ). put 16 c (put 8 b l)) er)) ∙ parts-laid a b c d e f z la lb lc ld le

-- ---- the families

pub family-listed : (t : PacketType) (g : Family) → family_of t ≡ g → is_unlisted g ≡ false → is_unlisted (family_of t) ≡ false
family-listed t g e h = rw e h

module _ (packet : List ℕ) where
  abbrev ConfigKind : ℕ → PacketType → Type 0
  ConfigKind b t = family_of t ≡ Config → 5 + b % 2 * 2 + flag (has_data t) ≡ (fields_of (kind_at t packet)).kind

  config-kinds : (b : ℕ) → ConfigKind b (type_at b)
  unfolding kind_at
  config-kinds b =
      each-type ConfigKind b
      (other Memory Config refl) (other Memory Config refl) (other Memory Config refl) (other Memory Config refl) (other Io Config refl) (other Io Config refl) (λ _. refl) (λ _. refl) (λ _. refl) (λ _. refl)
      (λ _ _. other Message Config refl) (λ _ _. other Message Config refl) (other Completion Config refl) (other Completion Config refl) (other NoFamily Config refl)

  pub config-kind-law : (b r : ℕ) → family_at packet ≡ Config → b ≡ byte packet 0 → r ≡ 5 + b % 2 * 2 + data_flag packet → r ≡ kind_read packet
  config-kind-law b r h e q = rw e at q ∙ config-kinds (byte packet 0) h

  abbrev zeros : List ℕ
  zeros = 0 ∷ 0 ∷ 0 ∷ 0 ∷ 0 ∷ 0 ∷ 0 ∷ 0 ∷ []

  abbrev six_parts : List ℕ → ℕ → ℕ → List ℕ → List ℕ → List ℕ → List ℕ
  six_parts front value body sizes count end = front ++ (bytes 8 value ++ (bytes 8 body ++ (sizes ++ (count ++ end))))

  -- digest and length of a type that has a length only with data
  abbrev counted_sizes : PacketType → List ℕ
  counted_sizes t = sizes_part (digest_word packet) (pick (has_data t) (length_at packet) 0)

  abbrev request_sizes : List ℕ
  request_sizes = sizes_part (digest_word packet) (length_at packet)

  abbrev MemoryRecord : PacketType → Type 0
  MemoryRecord t =
      six_parts (front_of (1 + flag (has_data t)) (all_attributes_at packet) 0 (tag_at packet) 0 packet) (address_of (route_at t packet)) 0 request_sizes (request_part packet) zeros
      ≡ record_of (packet_at t packet)

  memory-record : (t : PacketType) → family_of t ≡ Memory → MemoryRecord t
  unfolding record_of packet_at attributes_at route_at kind_at request_at
  memory-record = memory-types MemoryRecord refl refl refl refl

  abbrev IoRecord : PacketType → Type 0
  IoRecord t =
      six_parts (front_of (3 + flag (has_data t)) (low_attributes_at packet) 0 (tag_at packet) 0 packet) (address_at 4 packet) 0 request_sizes (request_part packet) zeros
      ≡ record_of (packet_at t packet)

  io-record : (t : PacketType) → family_of t ≡ Io → IoRecord t
  unfolding record_of packet_at attributes_at route_at kind_at request_at
  io-record = io-types IoRecord (rw zero-add) (rw zero-add)

  abbrev ConfigRecord : PacketType → Type 0
  ConfigRecord t =
      six_parts (front_of (fields_of (kind_at t packet)).kind (low_attributes_at packet) 1 (tag_at packet) 0 packet) (route_id_at packet) 0 request_sizes (request_part packet) (registers_part packet)
      ≡ record_of (packet_at t packet)

  config-record : (t : PacketType) → family_of t ≡ Config → ConfigRecord t
  unfolding record_of packet_at attributes_at route_at kind_at config_at request_at
  config-record = config-types ConfigRecord (rw zero-add) (rw zero-add) (rw zero-add) (rw zero-add)

  abbrev MessageRecord : PacketType → Type 0
  MessageRecord t =
      six_parts (front_of (9 + flag (has_data t)) (all_attributes_at packet) (route_case (message_route_at packet)) (tag_at packet) (code_at packet) packet) (route_value (message_route_at packet))
      (body_at packet) (counted_sizes t) (counted_part 0 (requester_at packet)) zeros
      ≡ record_of (packet_at t packet)

  message-record : (t : PacketType) → family_of t ≡ Message → MessageRecord t
  unfolding record_of packet_at attributes_at route_at kind_at message_at
  message-record = message-types MessageRecord refl refl

  abbrev CompletionRecord : PacketType → Type 0
  CompletionRecord t =
      six_parts (front_of (11 + flag (has_data t)) (all_attributes_at packet) 1 (completion_tag_at packet) 0 packet) (route_id_at packet) 0 (counted_sizes t)
      (counted_part (byte_count_field_at packet) (completer_at packet)) (status_part packet)
      ≡ record_of (packet_at t packet)

  completion-record : (t : PacketType) → family_of t ≡ Completion → CompletionRecord t
  unfolding record_of packet_at attributes_at route_at kind_at completion_at
  completion-record = completion-types CompletionRecord refl refl

  -- a message's header has four doublewords
  pub message-room : family_at packet ≡ Message → 4 * header_dw (packet_type_at packet) ≤ length packet → 16 ≤ length packet
  message-room h l = message-types (λ (t : PacketType). 4 * header_dw t ≤ length packet → 16 ≤ length packet) (λ k. k) (λ k. k) (packet_type_at packet) h l

  -- what was laid, of the parts that the calls gave
  module _ (k a r t c : ℕ) (out o x y z : List ℕ) (ex : x ≡ put 0 (front_of k a r t c packet) out) (d n l : ℕ) (ed : d ≡ digest_word packet) (el : n ≡ l) where
    laid : (v w : ℕ) (count end ys : List ℕ) → length count ≡ 8 → y ≡ put 16 (bytes 8 w) (put 8 (bytes 8 v) x) → z ≡ put 32 count (put 24 (sizes_part d n) y) → o ≡ put 40 end z
        → six_parts (front_of k a r t c packet) v w (sizes_part d n) count end ≡ ys → o ≡ over_front ys out
    laid v w count end ys b ey ez eo e =
        all_laid (front_of k a r t c packet) (bytes 8 v) (bytes 8 w) (sizes_part d n) count end out x y z o refl refl refl refl b ex ey ez eo ∙ ap (λ (l : List ℕ). over_front l out) e

    pub memory-put : (u : List ℕ) → family_at packet ≡ Memory → l ≡ length_at packet → k ≡ 1 + data_flag packet → a ≡ all_attributes_at packet → r ≡ 0 → t ≡ tag_at packet → c ≡ 0
        → u ≡ put 8 (bytes 8 (address_read packet)) x → y ≡ put 16 zeros u → z ≡ put 32 (request_part packet) (put 24 (sizes_part d n) y) → o ≡ put 40 zeros z → o ≡ record_laid packet out
    memory-put u h en ek ea er et ec eu ey ez eo =
        laid (address_read packet) 0 (request_part packet) zeros (record_read packet) refl (ey ∙ ap (put 16 zeros) eu) ez eo (rw (ed, el, en, ek, ea, er, et, ec) (memory-record (packet_type_at packet) h))

    pub io-put : (v : ℕ) → family_at packet ≡ Io → l ≡ length_at packet → k ≡ 3 + data_flag packet → a ≡ low_attributes_at packet → r ≡ 0 → t ≡ tag_at packet → c ≡ 0 → v ≡ address_at 4 packet
        → y ≡ put 16 (bytes 8 0) (put 8 (bytes 8 v) x) → z ≡ put 32 (request_part packet) (put 24 (sizes_part d n) y) → o ≡ put 40 zeros z → o ≡ record_laid packet out
    io-put v h en ek ea er et ec ev ey ez eo =
        laid v 0 (request_part packet) zeros (record_read packet) refl ey ez eo (rw (ed, el, en, ek, ea, er, et, ec, ev) (io-record (packet_type_at packet) h))

    pub config-put : (v i : ℕ) → family_at packet ≡ Config → l ≡ length_at packet → k ≡ kind_read packet → a ≡ low_attributes_at packet → r ≡ 1 → t ≡ tag_at packet → c ≡ 0 → i ≡ route_id_at packet → v ≡ i
        → y ≡ put 16 (bytes 8 0) (put 8 (bytes 8 v) x) → z ≡ put 32 (request_part packet) (put 24 (sizes_part d n) y) → o ≡ put 40 (registers_part packet) z → o ≡ record_laid packet out
    config-put v i h en ek ea er et ec ei ev ey ez eo =
        laid v 0 (request_part packet) (registers_part packet) (record_read packet) refl ey ez eo (rw (ed, el, en, ek, ea, er, et, ec, ev, ei) (config-record (packet_type_at packet) h))

    pub completion-put : (v m i j : ℕ) → family_at packet ≡ Completion → l ≡ length_given packet → k ≡ 11 + data_flag packet → a ≡ all_attributes_at packet → r ≡ 1 → t ≡ completion_tag_at packet → c ≡ 0
        → j ≡ route_id_at packet → v ≡ j → y ≡ put 16 (bytes 8 0) (put 8 (bytes 8 v) x) → m ≡ byte_count_field_at packet → i ≡ completer_at packet
        → z ≡ put 32 (counted_part m i) (put 24 (sizes_part d n) y) → o ≡ put 40 (status_part packet) z → o ≡ record_laid packet out
    completion-put v m i j h en ek ea er et ec ej ev ey em ei ez eo =
        laid v 0 (counted_part m i) (status_part packet) (record_read packet) refl ey ez eo (rw (ed, el, en, ek, ea, er, et, ec, ev, ej, em, ei) (completion-record (packet_type_at packet) h))

    pub message-put : (v w i : ℕ) → family_at packet ≡ Message → l ≡ length_given packet → 16 ≤ length packet → k ≡ 9 + data_flag packet → a ≡ all_attributes_at packet
        → r ≡ route_case (message_route_at packet) → t ≡ tag_at packet → c ≡ code_at packet → v ≡ route_value (message_route_at packet) → (16 ≤ length packet → w ≡ body_at packet)
        → y ≡ put 16 (bytes 8 w) (put 8 (bytes 8 v) x) → i ≡ requester_at packet → z ≡ put 32 (counted_part 0 i) (put 24 (sizes_part d n) y) → o ≡ put 40 zeros z → o ≡ record_laid packet out
    message-put v w i h en b ek ea er et ec ev ew ey ei ez eo =
        laid v w (counted_part 0 i) zeros (record_read packet) refl ey ez eo (rw (ed, el, en, ek, ea, er, et, ec, ev, ew b, ei) (message-record (packet_type_at packet) h))

-- ---- addresses

small-nil : AllBytes []
small-nil i l = absurd (omega (arith, l))

small-cons : (x : ℕ) (s : List ℕ) → x < 256 → AllBytes s → AllBytes (x ∷ s)
small-cons x s h k zero l = h
small-cons x s h k (suc i) l = k i (omega (arith, l))

address-of : (a b c d e f g h : ℕ) → a < 256 → b < 256 → c < 256 → d < 256 → e < 256 → f < 256 → g < 256 → h < 256
    → (a ∷ b ∷ c ∷ d ∷ e ∷ f ∷ g ∷ h / 4 * 4 ∷ []) ≡ bytes 8 (word 8 (a ∷ b ∷ c ∷ d ∷ e ∷ f ∷ g ∷ h ∷ []) 0 / 4 * 4)
address-of a b c d e f g h ha hb hc hd he hf hg hh =
    let l : List ℕ = a ∷ b ∷ c ∷ d ∷ e ∷ f ∷ g ∷ h / 4 * 4 ∷ [] in
    let m : List ℕ = a ∷ b ∷ c ∷ d ∷ e ∷ f ∷ g ∷ h ∷ [] in
    let small : AllBytes l = small-cons a (b ∷ c ∷ d ∷ e ∷ f ∷ g ∷ h / 4 * 4 ∷ []) ha (small-cons b (c ∷ d ∷ e ∷ f ∷ g ∷ h / 4 * 4 ∷ []) hb (small-cons c (d ∷ e ∷ f ∷ g ∷ h / 4 * 4 ∷ []) hc (small-cons d (e ∷ f ∷ g ∷ h / 4 * 4 ∷ []) hd (small-cons e (f ∷ g ∷ h / 4 * 4 ∷ []) he (small-cons f (g ∷ h / 4 * 4 ∷ []) hf (small-cons g (h / 4 * 4 ∷ []) hg (small-cons (h / 4 * 4) [] (omega (arith, hh)) small-nil))))))) in
    let q : word 8 l 0 ≡ word 8 m 0 / 4 * 4 = omega arith in
    sym (bytes_word 8 l (omega arith) small) ∙ ap (bytes 8) q

module _ (packet out o : List ℕ) (small : Bytes packet) where
  pub wide-bytes : o ≡ put 8 (byte packet 8 ∷ byte packet 9 ∷ byte packet 10 ∷ byte packet 11 ∷ byte packet 12 ∷ byte packet 13 ∷ byte packet 14 ∷ byte packet 15 / 4 * 4 ∷ []) out
      → o ≡ put 8 (bytes 8 (address_at 8 packet)) out
  wide-bytes q =
      q ∙ ap (λ (l : List ℕ). put 8 l out) (address-of (byte packet 8) (byte packet 9) (byte packet 10) (byte packet 11) (byte packet 12) (byte packet 13) (byte packet 14) (byte packet 15) (small 8) (small 9) (small 10) (small 11) (small 12) (small 13) (small 14) (small 15))

  pub narrow-bytes : o ≡ put 8 (0 ∷ 0 ∷ 0 ∷ 0 ∷ byte packet 8 ∷ byte packet 9 ∷ byte packet 10 ∷ byte packet 11 / 4 * 4 ∷ []) out → o ≡ put 8 (bytes 8 (address_at 4 packet)) out
  narrow-bytes q =
      let z : 0 < 256 = omega arith in
      let e : word 8 (0 ∷ 0 ∷ 0 ∷ 0 ∷ byte packet 8 ∷ byte packet 9 ∷ byte packet 10 ∷ byte packet 11 ∷ []) 0 ≡ word 4 packet 8 = omega arith in
      q ∙ ap (λ (l : List ℕ). put 8 l out) (address-of 0 0 0 0 (byte packet 8) (byte packet 9) (byte packet 10) (byte packet 11) z z z z (small 8) (small 9) (small 10) (small 11) ∙ ap (λ (x : ℕ). bytes 8 (x / 4 * 4)) e)

module _ (packet : List ℕ) where
  module _ (h : family_of (packet_type_at packet) ≡ Memory) (room : 4 * header_dw (packet_type_at packet) ≤ length packet) where
    module _ (b : ℕ) (eb : b ≡ byte packet 0) (r : Bool) (f : is_unlisted (family_of (type_at b)) ≡ false → r ≡ eqb (header_dw (type_at b)) 4) where
      pub wide-laid : (out o : List ℕ) → r ≡ true → o ≡ put 8 (bytes 8 (address_at 8 packet)) out → o ≡ put 8 (bytes 8 (address_of (route_at (packet_type_at packet) packet))) out
      wide-laid out o q eo = eo ∙ ap (λ (x : ℕ). put 8 (bytes 8 x) out) (address-wide packet b eb r f (word 8 packet 8) q (λ _. refl) h room)

      pub narrow-laid : (out o : List ℕ) → r ≡ false → o ≡ put 8 (bytes 8 (address_at 4 packet)) out → o ≡ put 8 (bytes 8 (address_of (route_at (packet_type_at packet) packet))) out
      narrow-laid out o q eo = eo ∙ ap (λ (x : ℕ). put 8 (bytes 8 x) out) (address-narrow packet b eb r f (address_at 4 packet) q refl h room)
