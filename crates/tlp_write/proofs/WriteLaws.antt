-- Laws of writing, in the words of its returns.
use Prim.Native.Nat.{ℕ, zero, suc, ◌+◌, ◌*◌, ◌≤◌}
use mathlib.Core.Path.{◌≡◌, refl, sym, ap, ◌∙◌}
use mathlib.Core.Bool.{Bool, true, false, not}
use mathlib.Core.List.{List, [], ◌++◌, append_assoc}
use native.Mathlib.Omega.{arith}
use lib.Dec.{eqb, ltb}
use lib.ListN.{length, take, length-append}
use borrow.Author.Tests.{eqb-true, ltb-false, not-false, ne_eqb}
use Rattle.bits.specs.Choice.{pick}
use Rattle.bits.specs.Word.{bytes}
use Rattle.bits.specs.Put.{put, over_front}
use Rattle.bits.proofs.PutLaws.{length-put, put_front, put_next}
use Rattle.byte_enables.specs.declared.Access.{Access}
use Rattle.tlp.specs.Rows.{first}
use Rattle.tlp.specs.Refusals.{refusal, answered, checked, number_in}
use Rattle.tlp.specs.declared.refusal.Refusal.{Refusal}
use Rattle.tlp.proofs.RowLaws.{some_of, none_of}
use Rattle.tlp.proofs.RefusalLaws.{number-answered}
use Rattle.std.specs.Prelude.{Result, Ok, Err}
use Rattle.tlp.specs.PacketTypes.{header_dw, family_of}
use Rattle.tlp.specs.Packets.{type_of, access_of}
use Rattle.tlp.specs.Sizes.{data_bytes, digest_bytes}
use Rattle.tlp.specs.Contents.{plain_bad, enables_bad, page_bad, fault_rows}
use Rattle.tlp.specs.declared.settings.Settings.{Settings}
use Rattle.tlp.specs.declared.packet.Packet.{Packet}
use Rattle.tlp.specs.declared.packet_type.PacketType.{PacketType}
use Rattle.tlp.specs.declared.packet_type.Family.{Family}
use Rattle.tlp_write.specs.declared.words.Words.{Words}
use Rattle.tlp_write.specs.declared.head.Head.{Head}
use Rattle.tlp_write.specs.Layout.{routing_in, own_bytes, front_bytes, header_of, digest_of, bytes_of, size_of}
use Rattle.tlp_write.specs.Write.{field_rows, later_rows, write_packet, write_out}
use Rattle.tlp_write.specs.Inner.Padded.{padded}
use Rattle.tlp_write.specs.Inner.Head.{word_bytes, head_front, head_size, head_bytes, head_digest, data_size, whole_size, listed_fault, judged_rows, judged_answer, judged_out, head_answer, head_out, IsHead}
use Rattle.tlp_write.specs.Inner.Lay.{lay_answer, lay_out}
use Rattle.tlp_write.proofs.LayoutLaws.{routing-low, header-length, header-front, three-or-four}

-- ---- the packet over the output

head-length : (h : Head) → length (head_bytes h) ≡ head_size h
head-length h = by (eqb (header_dw h.packet_type) 4)
  where
    by : (b : Bool) → length (take (pick b 16 12) (head_front h ++ word_bytes h.words)) ≡ pick b 16 12
    by true = refl
    by false = refl

digest-length : (h : Head) → length (head_digest h) ≡ digest_bytes h.has_digest
unfolding digest_bytes
digest-length h = by h.has_digest
  where
    by : (b : Bool) → length (pick b (bytes 4 h.digest) []) ≡ pick b 4 0
    by true = refl
    by false = refl

module _ (h : Head) (payload : List ℕ) where
  front_length : length (head_bytes h ++ payload) ≡ head_size h + length payload
  front_length = rw (length-append (head_bytes h) payload, head-length h)

  whole_length : length (head_bytes h ++ (payload ++ head_digest h)) ≡ head_size h + length payload + digest_bytes h.has_digest
  whole_length = omega (arith, length-append (head_bytes h) (payload ++ head_digest h), length-append payload (head_digest h), head-length h, digest-length h)

  module _ (out o1 : List ℕ) (wide : Bool) (f n : ℕ) (ew : wide ≡ eqb (header_dw h.packet_type) 4) (ef : bytes 4 f ≡ head_front h) where
    size_is : pick wide 16 12 ≡ head_size h
    size_is = rw ew

    pub words-room : length (head_bytes h ++ payload) ≤ length out → pick wide 16 12 ≤ length out
    words-room l = omega (arith, l, size_is, front_length)

    module _ (en : n ≡ pick wide 16 12) (e1 : o1 ≡ put 0 (take (pick wide 16 12) (bytes 4 f ++ word_bytes h.words)) out) where
      first-put : o1 ≡ put 0 (head_bytes h) out
      first-put =
          e1
          ∙ ap (λ (b : Bool). put 0 (take (pick b 16 12) (bytes 4 f ++ word_bytes h.words)) out) ew
          ∙ ap (λ (l : List ℕ). put 0 (take (head_size h) (l ++ word_bytes h.words)) out) ef

      pub front-room : length (head_bytes h ++ payload) ≤ length out → n + length payload ≤ length o1
      front-room l =
          let k : 0 + length (head_bytes h) ≤ length out = omega (arith, l, front_length, head-length h) in
          omega (arith, l, front_length, en, size_is, ap length first-put ∙ length-put 0 (head_bytes h) out k)

      pub front-end : (r : ℕ) → r ≡ n + length payload → r ≡ length (head_bytes h ++ payload)
      front-end r e = omega (arith, e, en, size_is, front_length)

      pub front-put : (o2 : List ℕ) → o2 ≡ put n payload o1 → o2 ≡ put 0 (head_bytes h ++ payload) out
      front-put o2 e =
          let k : n ≡ length (head_bytes h) = omega (arith, en, size_is, head-length h) in
          rw (k, first-put) at e ∙ put_next (head_bytes h) payload out

  module _ (out : List ℕ) where
    pub packet-front : length (head_bytes h ++ (payload ++ head_digest h)) ≤ length out → length (head_bytes h ++ payload) ≤ length out
    packet-front l = omega (arith, l, whole_length, front_length)

    module _ (o1 : List ℕ) (n : ℕ) (e : n ≡ length (head_bytes h ++ payload)) (f : o1 ≡ put 0 (head_bytes h ++ payload) out) where
      pub packet-room : length (head_bytes h ++ (payload ++ head_digest h)) ≤ length out → n + length (head_digest h) ≤ length o1
      packet-room l =
          let k : 0 + length (head_bytes h ++ payload) ≤ length out = omega (arith, packet-front l) in
          omega (arith, l, whole_length, front_length, digest-length h, e, ap length f ∙ length-put 0 (head_bytes h ++ payload) out k)

      pub packet-put : (o2 : List ℕ) → o2 ≡ put n (head_digest h) o1 → o2 ≡ over_front (head_bytes h ++ (payload ++ head_digest h)) out
      packet-put o2 k =
          rw (f, e) at k
          ∙ put_next (head_bytes h ++ payload) (head_digest h) out
          ∙ put_front ((head_bytes h ++ payload) ++ head_digest h) out
          ∙ rw (append_assoc (head_bytes h) payload (head_digest h))

-- ---- answers

-- an answer to a number is a refusal where it is not 0, whatever the value is
ok_number : {A : Type 0} (x y : A) (n : ℕ) → Ok x ≡ answered n y → n ≡ 0
ok_number x y zero e = refl
ok_number x y (suc n) e = absurd (cc)

err_number : {A : Type 0} (r : Refusal) (y : A) (n : ℕ) → Err r ≡ answered n y → n ≡ 0 → ⊥
err_number r y zero e z = cc
err_number r y (suc n) e z = omega (arith, z)

err_answer : {A B : Type 0} (r : Refusal) (x : A) (y : B) (n : ℕ) → Err r ≡ answered n x → Err r ≡ answered n y
err_answer r x y zero e = absurd (cc)
err_answer r x y (suc n) e = ap Err (cc)

-- 3 and 12 are not the case where no number is given
three-and-twelve : (x y z : Bool) (f : ℕ) → pick x 3 (pick y 5 (pick (not (eqb f 0)) f (pick z 12 0))) ≡ 0 → (x ≡ false) × (z ≡ false)
three-and-twelve true y z f e = absurd (omega (arith, e))
three-and-twelve false true z f e = absurd (omega (arith, e))
three-and-twelve false false true zero e = absurd (omega (arith, e))
three-and-twelve false false false zero e = (refl, refl)
three-and-twelve false false z (suc f) e = absurd (omega (arith, rw (ne_eqb (suc f) 0 (λ q. omega arith)) at e))

module _ (mps : ℕ) (h : Head) (fault : Result Unit Refusal) (payload out : List ℕ) where
  pub refused-out : (r : Refusal) → Err r ≡ judged_answer mps h fault (length payload) (length out) → out ≡ judged_out mps h fault payload out
  unfolding judged_out
  refused-out r e = rw (← e)

  module _ (size : ℕ) (e : Ok size ≡ judged_answer mps h fault (length payload) (length out)) where
    pub written_out : (last : List ℕ) → last ≡ over_front (head_bytes h ++ (payload ++ head_digest h)) out → last ≡ judged_out mps h fault payload out
    unfolding judged_out
    written_out last k = rw (← e) k

    pub written-room : length (head_bytes h ++ (payload ++ head_digest h)) ≤ length out
    unfolding first judged_answer
    written-room =
        let z = ok_number size (whole_size h) (first (judged_rows mps h fault (length payload) (length out))) e in
        let (d, r) = three-and-twelve (not (eqb (length payload) (data_size h))) (ltb mps (data_size h)) (ltb (length out) (whole_size h)) (number_in fault) z in
        let m = eqb-true (length payload) (data_size h) (not-false (eqb (length payload) (data_size h)) d) in
        omega (arith, m, ltb-false (length out) (whole_size h) r, whole_length h payload)

-- ---- any head

-- the rows 6 to 8 give such a fault
fault-kept : (a b c : Bool) → checked (pick a 6 (pick b 7 (pick c 8 0))) ≡ listed_fault (pick a 6 (pick b 7 (pick c 8 0)))
unfolding refusal
fault-kept true b c = refl
fault-kept false true c = refl
fault-kept false false true = refl
fault-kept false false false = refl

module _ (mps : ℕ) (h : Head) (fault : Result Unit Refusal) (e : fault ≡ listed_fault h.fault) where
  pub told-answer : (n room : ℕ) (x : Result ℕ Refusal) → x ≡ judged_answer mps h fault n room → x ≡ head_answer mps h n room
  unfolding head_answer
  told-answer n room x q = rw e at q

  pub told-out : (payload out last : List ℕ) → last ≡ judged_out mps h fault payload out → last ≡ head_out mps h payload out
  unfolding head_out
  told-out payload out last q = rw e at q

-- ---- the head of a packet

fault-first : (a b c : Bool) (m : ℕ)
    → pick (not (eqb (pick a 6 (pick b 7 (pick c 8 0))) 0)) (pick a 6 (pick b 7 (pick c 8 0))) m ≡ pick a 6 (pick b 7 (pick c 8 m))
fault-first true b c m = refl
fault-first false true c m = refl
fault-first false false true m = refl
fault-first false false false m = refl

-- the rows 6 to 8 are refusals'
pub faults_numbered : (f : Family) (a : Access) (tc attr : ℕ) → number_in (checked (first (fault_rows f a tc attr 0))) ≡ first (fault_rows f a tc attr 0)
unfolding refusal
faults_numbered f a tc attr = number-answered tt (fault_rows f a tc attr 0) refl

pub head-law : (p : Packet) (t : PacketType) (a : Access) (f : Family) (r n : ℕ) (m : Result Unit Refusal) (w : Words) → t ≡ type_of p → a ≡ access_of p → f ≡ family_of t
    → r ≡ routing_in p.route p.kind → m ≡ checked (first (fault_rows f a p.traffic_class p.attributes 0)) → n ≡ number_in m
    → word_bytes w ≡ padded 12 (own_bytes p.route p.kind)
    → IsHead (record {
      packet_type = t;
      routing = r;
      fault = n;
      words = w;
      traffic_class = p.traffic_class;
      attributes = p.attributes;
      poisoned = p.poisoned;
      has_digest = p.has_digest;
      digest = p.digest;
      length = a.length;
    }) p
head-law p t a f r n m w et ea ef er em en ew = record {
  type_is = et;
  routing_is = er;
  fault_is = en ∙ ap number_in em ∙ faults_numbered f a p.traffic_class p.attributes ∙ rw (ea, ef, et);
  words_are = ew;
  class_is = refl;
  attributes_are = refl;
  poisoned_is = refl;
  digest_told = refl;
  digest_is = refl;
  length_is = rw ea;
}

-- the rows by their numbers: data, fault, whole size
abbrev numbers_first : ℕ → ℕ → ℕ → ℕ → ℕ → ℕ → ℕ
numbers_first mps n room held fault size = pick (not (eqb n held)) 3 (pick (ltb mps held) 5 (pick (not (eqb fault 0)) fault (pick (ltb room size) 12 0)))

module _ (h : Head) (p : Packet) (i : IsHead h p) where
  front_same : head_front h ≡ front_bytes p
  unfolding front_bytes
  front_same = rw (i.type_is, i.routing_is, routing-low p.route p.kind, i.class_is, i.attributes_are, i.poisoned_is, i.digest_told, i.length_is)

  size_same : head_size h ≡ 4 * header_dw (type_of p)
  size_same = rw i.type_is (three-or-four p)

  bytes_same : head_bytes h ≡ header_of p
  bytes_same =
      ap (λ (n : ℕ). take n (head_front h ++ word_bytes h.words)) (size_same ∙ sym (header-length p))
      ∙ ap (λ (l : List ℕ). take (length (header_of p)) (l ++ word_bytes h.words)) front_same
      ∙ ap (λ (l : List ℕ). take (length (header_of p)) (front_bytes p ++ l)) i.words_are
      ∙ header-front p

  digest-same : head_digest h ≡ digest_of p
  unfolding digest_of
  digest-same = rw (i.digest_told, i.digest_is)

  whole_same : whole_size h ≡ size_of p
  unfolding size_of
  whole_same = rw (size_same, i.type_is, i.length_is, i.digest_told)

  data-same : data_size h ≡ data_bytes (type_of p) (access_of p).length
  data-same = rw (i.type_is, i.length_is)

  fault-same : checked h.fault ≡ listed_fault h.fault
  unfolding first
  fault-same =
      let f = family_of (type_of p) in
      let a = access_of p in
      rw i.fault_is (fault-kept (plain_bad f a p.traffic_class p.attributes 0) (enables_bad f a) (page_bad f a))

  fault-number : number_in (listed_fault h.fault) ≡ first (fault_rows (family_of (type_of p)) (access_of p) p.traffic_class p.attributes 0)
  fault-number =
      ap number_in (sym fault-same)
      ∙ ap (λ (n : ℕ). number_in (checked n)) i.fault_is
      ∙ faults_numbered (family_of (type_of p)) (access_of p) p.traffic_class p.attributes

  rows_same : (c : Settings) (n room : ℕ) → first (judged_rows c.mps h (listed_fault h.fault) n room) ≡ first (later_rows c p n room)
  unfolding first
  rows_same c n room =
      let f = family_of (type_of p) in
      let a = access_of p in
      let d = data_bytes (type_of p) a.length in
      ap (λ (x : ℕ). numbers_first c.mps n room x (number_in (listed_fault h.fault)) (whole_size h)) data-same
      ∙ ap (λ (x : ℕ). numbers_first c.mps n room d x (whole_size h)) fault-number
      ∙ ap (λ (x : ℕ). numbers_first c.mps n room d (first (fault_rows f a p.traffic_class p.attributes 0)) x) whole_same
      ∙ ap (λ (m : ℕ). pick (not (eqb n d)) 3 (pick (ltb c.mps d) 5 m))
      (fault-first (plain_bad f a p.traffic_class p.attributes 0) (enables_bad f a) (page_bad f a) (pick (ltb room (size_of p)) 12 0))

  -- without a fault it is laid as it is
  lay-same : (mps n room : ℕ) → judged_answer mps h (Ok tt) n room ≡ lay_answer mps p n room
  unfolding judged_answer lay_answer first
  lay-same mps n room = rw (whole_same, data-same)

  pub lay-answer : (mps n room : ℕ) (x : Result ℕ Refusal) → x ≡ judged_answer mps h (Ok tt) n room → x ≡ lay_answer mps p n room
  lay-answer mps n room x q = q ∙ lay-same mps n room

  pub lay-out : (mps : ℕ) (payload out last : List ℕ) → last ≡ judged_out mps h (Ok tt) payload out → last ≡ lay_out mps p payload out
  unfolding judged_out lay_out bytes_of
  lay-out mps payload out last q = q ∙ rw (lay-same mps (length payload) (length out), bytes_same, digest-same)

  -- where no row of the settings or the fields holds, what is answered and written of the head is the packet's
  module _ (c : Settings) (e : Ok tt ≡ checked (first (field_rows c p))) where
    answer-same : (n room : ℕ) → judged_answer c.mps h (listed_fault h.fault) n room ≡ write_packet c p n room
    unfolding judged_answer write_packet
    answer-same n room =
        let z = ok_number tt tt (first (field_rows c p)) e in
        rw (rows_same c n room, whole_same)
        (ap (λ (k : ℕ). answered k (size_of p)) (none_of (field_rows c p) (later_rows c p n room) (first (field_rows c p)) (first (later_rows c p n room)) refl refl z refl))

    pub head-answer : (n room : ℕ) (x : Result ℕ Refusal) → x ≡ head_answer c.mps h n room → x ≡ write_packet c p n room
    unfolding head_answer
    head-answer n room x q = q ∙ answer-same n room

    pub head-out : (payload out last : List ℕ) → last ≡ head_out c.mps h payload out → last ≡ write_out c p payload out
    unfolding head_out judged_out write_out bytes_of
    head-out payload out last q = q ∙ rw (answer-same (length payload) (length out), bytes_same, digest-same)

    -- the same of a head whose fault is told as it stands: of a packet's head it is one of the rows 6 to 8, or none
    pub write-answer : (n room : ℕ) (x : Result ℕ Refusal) → x ≡ judged_answer c.mps h (checked h.fault) n room → x ≡ write_packet c p n room
    write-answer n room x q = rw fault-same at q ∙ answer-same n room

    pub write-out : (payload out last : List ℕ) → last ≡ judged_out c.mps h (checked h.fault) payload out → last ≡ write_out c p payload out
    unfolding head_out
    write-out payload out last q = head-out payload out last (rw fault-same at q)

-- ---- with the rows of the settings' and the packet's fields

module _ (c : Settings) (p : Packet) (r : Refusal) (e : Err r ≡ checked (first (field_rows c p))) where
  pub field-refused : (k room : ℕ) → Err r ≡ write_packet c p k room
  unfolding write_packet
  field-refused k room =
      let n = first (field_rows c p) in
      rw (← some_of (field_rows c p) (later_rows c p k room) n refl (err_number r tt n e)) (err_answer r tt (size_of p) n e)

  pub field_out : (payload out : List ℕ) → out ≡ write_out c p payload out
  unfolding write_out
  field_out payload out = rw (← field-refused (length payload) (length out))
