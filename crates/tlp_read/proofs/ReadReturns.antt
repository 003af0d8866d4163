-- One law for each return of the rows and of `read`, in the words of the calls before it.
use Prim.Native.Nat.{ℕ, zero, suc, ◌+◌, ◌*◌, ◌/◌, ◌%◌, ◌≤◌, ◌<◌}
use native.Mathlib.Nat.{zero-add}
use native.Mathlib.Omega.{arith}
use mathlib.Core.Path.{◌≡◌, refl, sym, ap, ◌∙◌}
use mathlib.Core.Logic.{◌⊎◌, inl, inr}
use mathlib.Core.Bool.{Bool, true, false, ◌||◌, ◌&&◌, not}
use mathlib.Core.List.{List, [], ◌∷◌}
use lib.Dec.{eqb, ltb}
use lib.ListN.{length}
use borrow.Author.Tests.{eqb-true, eq-eqb, lt-ltb, le-ltb}
use Rattle.bits.specs.Word.{byte, word}
use Rattle.byte_enables.specs.Enables.{enables_allowed}
use Rattle.byte_enables.specs.declared.Access.{Access}
use Rattle.tlp.specs.Rows.{Row, row, first}
use Rattle.tlp.specs.Settings.{settings_listed}
use Rattle.tlp.specs.PacketTypes.{type_at, packet_type_at, header_dw, has_data, family_of, is_unlisted, is_io_or_config}
use Rattle.tlp.specs.Packets.{address_of, access_of}
use Rattle.tlp.specs.Sizes.{length_at, digest_at, data_bytes, digest_bytes, bytes_called}
use Rattle.tlp.specs.Contents.{not_plain, plain_bad, enables_bad, page_bad, crosses_page}
use Rattle.tlp.specs.declared.settings.Settings.{Settings}
use Rattle.tlp.specs.declared.packet_type.PacketType.{PacketType}
use Rattle.tlp.specs.declared.packet_type.PacketType.TheVariants.{MRd32, MRd64, MWr32, MWr64, IORd, IOWr, CfgRd0, CfgWr0, CfgRd1, CfgWr1, Msg, MsgD, Cpl, CplD, Unlisted}
use Rattle.tlp.specs.declared.packet_type.Family.{Family}
use Rattle.tlp.specs.declared.packet_type.Family.TheVariants.{Memory, Io, Config, Message, Completion, Unlisted as NoFamily}
use Rattle.tlp.proofs.FmtLaws.{fmt-law}
use Rattle.tlp.proofs.FamilyLaws.{memory-types, io-types, config-types}
use Rattle.tlp.proofs.RowLaws.{here, next, here-not, next-not, here_lt, next-lt, here-ne-call, next-ne-call}
use Rattle.tlp_read.specs.Fields.{traffic_class_at, low_attributes_at, attributes_at, hint_at, address_type_at, first_enables_at, last_enables_at, address_at, routing_at}
use Rattle.tlp_read.specs.Fields.{request_at, config_at, route_at, kind_at, packet_at}
use Rattle.tlp_read.specs.Inner.Rows.{Listed, access_read, address_read, not_plain_at, last_given, header_rows}
use Rattle.std.proofs.Common.{Result, Ok, Err}
use Rattle.tlp.specs.Refusals.{checked}
use Rattle.tlp.specs.declared.refusal.Refusal.{Refusal}
use Rattle.tlp_read.specs.Read.{hint_or_address_type_set, routing_bad, form_bad, judge_rows, read_rows}

-- ---- sizes

-- the length of a packet is the Length field, or it has no data
data-field : (t : PacketType) (bytes : List ℕ) → data_bytes t (length_at bytes) ≡ data_bytes t (access_of (packet_at t bytes)).length
unfolding data_bytes access_of packet_at route_at kind_at request_at config_at
data-field MRd32 bytes = refl
data-field MRd64 bytes = refl
data-field MWr32 bytes = refl
data-field MWr64 bytes = refl
data-field IORd bytes = refl
data-field IOWr bytes = refl
data-field CfgRd0 bytes = refl
data-field CfgWr0 bytes = refl
data-field CfgRd1 bytes = refl
data-field CfgWr1 bytes = refl
data-field Msg bytes = refl
data-field MsgD bytes = refl
data-field Cpl bytes = refl
data-field CplD bytes = refl
data-field Unlisted bytes = refl

wide_is : (h : ℕ) (r : Bool) → r ≡ eqb h 4 → r ≡ true → h ≡ 4
wide_is h r e q = eqb-true h 4 (sym e ∙ q)

narrow-is : (h x : ℕ) (r : Bool) → h ≡ 3 + x → x < 2 → r ≡ eqb h 4 → r ≡ false → h ≡ 3
narrow-is h zero r e l q z = e
narrow-is h (suc zero) r e l q z = let k : true ≡ false = sym (eq-eqb h 4 e) ∙ sym q ∙ z in cc
narrow-is h (suc (suc x)) r e l q z = absurd (omega arith)

module _ (bytes : List ℕ) (b : ℕ) (eb : b ≡ byte bytes 0) (l : Listed bytes) where
  module _ (r : Bool) (f : is_unlisted (family_of (type_at b)) ≡ false → r ≡ eqb (header_dw (type_at b)) 4) where
    wide_at : r ≡ eqb (header_dw (packet_type_at bytes)) 4
    wide_at = rw eb at f l

    pub header-wide : r ≡ true → 16 ≡ 4 * header_dw (packet_type_at bytes)
    header-wide q = rw (wide_is (header_dw (packet_type_at bytes)) r wide_at q)

    pub header-narrow : r ≡ false → 12 ≡ 4 * header_dw (packet_type_at bytes)
    header-narrow q = rw (narrow-is (header_dw (packet_type_at bytes)) (byte bytes 0 / 32 % 2) r (fmt-law (byte bytes 0) l).0 (omega arith) wide_at q)

    pub form-wide : (w : ℕ) → r ≡ true → w ≡ word 4 bytes 8 → eqb w 0 ≡ eqb (header_dw (packet_type_at bytes)) 4 && eqb (word 4 bytes 8) 0
    form-wide w q e = rw (← wide_at, q, e)

    pub form-narrow : r ≡ false → false ≡ eqb (header_dw (packet_type_at bytes)) 4 && eqb (word 4 bytes 8) 0
    form-narrow q = rw (← wide_at, q)

  module _ (r : Bool) (f : is_unlisted (family_of (type_at b)) ≡ false → r ≡ has_data (type_at b)) where
    pub data-some : (n : ℕ) → r ≡ true → n ≡ length_at bytes → 4 * n ≡ data_bytes (packet_type_at bytes) (access_of (packet_at (packet_type_at bytes) bytes)).length
    unfolding data_bytes
    data-some n q e =
        let g : r ≡ has_data (packet_type_at bytes) = rw eb at f l in
        rw (← data-field (packet_type_at bytes) bytes, ← g, q, e)

    pub data-none : r ≡ false → 0 ≡ data_bytes (packet_type_at bytes) (access_of (packet_at (packet_type_at bytes) bytes)).length
    unfolding data_bytes
    data-none q =
        let g : r ≡ has_data (packet_type_at bytes) = rw eb at f l in
        rw (← data-field (packet_type_at bytes) bytes, ← g, q)

pub ruleset header-laws = (header-wide, header-narrow)

pub ruleset form-laws = (form-wide, form-narrow)

pub ruleset data-laws = (data-some, data-none)

pub size-law : (h d g : ℕ) (bytes : List ℕ) (x : Bool) → x ≡ digest_at bytes → g ≡ digest_bytes x → h + d + g ≡ h + d + digest_bytes (digest_at bytes)
size-law h d g bytes x ex eg = rw (eg, ex)

size_is : (bytes : List ℕ) (h d n : ℕ) → h ≡ 4 * header_dw (packet_type_at bytes) → d ≡ data_bytes (packet_type_at bytes) (access_of (packet_at (packet_type_at bytes) bytes)).length → n ≡ h + d + digest_bytes (digest_at bytes) → n ≡ bytes_called (packet_type_at bytes) bytes
unfolding bytes_called
size_is bytes h d n eh ed en = en ∙ rw (eh, ed, ← data-field (packet_type_at bytes) bytes)

-- ---- rows 4 to 10, family by family

-- row 5 by a call: it refused, or it let the packet through
pub row-5-given : (q : Result Unit Refusal) (e : Refusal) (b : Bool) (n : ℕ) → q ≡ Err e → Err e ≡ checked (first (row 5 b ∷ [])) → (b ≡ true → 5 ≡ n) → q ≡ checked n
unfolding first
row-5-given q e true n p k f = rw (← f refl) (p ∙ k)
row-5-given q e false n p k f = let z : Err e ≡ Ok tt = k in cc

pub row-5-passed : (r : Result Unit Refusal) (v : Unit) (b : Bool) (rs : List Row) (m : ℕ) → r ≡ Ok v → r ≡ checked (first (row 5 b ∷ [])) → m ≡ first rs → m ≡ first (row 5 b ∷ rs)
unfolding first
row-5-passed r v true rs m q k e = let z : Ok v ≡ checked 5 = sym q ∙ k in cc
row-5-passed r v false rs m q k e = e

-- the same of 7 and 8
pub rows-7-8-given : (q : Result Unit Refusal) (e : Refusal) (b c : Bool) (n : ℕ) → q ≡ Err e → Err e ≡ checked (first (row 7 b ∷ row 8 c ∷ []))
    → (b ≡ true → 7 ≡ n) → (b ≡ false → c ≡ true → 8 ≡ n) → q ≡ checked n
unfolding first
rows-7-8-given q e true c n p k f g = rw (← f refl) (p ∙ k)
rows-7-8-given q e false true n p k f g = rw (← g refl refl) (p ∙ k)
rows-7-8-given q e false false n p k f g = let z : Err e ≡ Ok tt = k in cc

pub rows-7-8-passed : (r : Result Unit Refusal) (v : Unit) (b c : Bool) (rs : List Row) (m : ℕ) → r ≡ Ok v → r ≡ checked (first (row 7 b ∷ row 8 c ∷ []))
    → m ≡ first rs → m ≡ first (row 7 b ∷ row 8 c ∷ rs)
unfolding first
rows-7-8-passed r v true c rs m q k e = let z : Ok v ≡ checked 7 = sym q ∙ k in cc
rows-7-8-passed r v false true rs m q k e = let z : Ok v ≡ checked 8 = sym q ∙ k in cc
rows-7-8-passed r v false false rs m q k e = e

-- a last test of a number that a call gave
pub last-ne : (a b k : ℕ) → a ≡ b → not (eqb a k) ≡ not (eqb b k)
last-ne a b k e = rw e

module _ (mps : ℕ) (t : PacketType) (bytes : List ℕ) (m : ℕ) where
  pub memory-rows : family_of t ≡ Memory
      → m ≡ first (row 4 (hint_at bytes || not (eqb (address_type_at bytes) 0)) ∷ row 5 (ltb mps (data_bytes t (access_of (packet_at t bytes)).length)) ∷ row 7 (not (enables_allowed (access_of (packet_at t bytes)))) ∷ row 8 (crosses_page (access_of (packet_at t bytes))) ∷ row 10 (eqb (header_dw t) 4 && eqb (word 4 bytes 8) 0) ∷ [])
      → m ≡ first (judge_rows mps t bytes)
  unfolding first hint_or_address_type_set plain_bad enables_bad page_bad routing_bad form_bad
  memory-rows h q = rw h q

  pub memory-rows-of : (a : Access) → family_of t ≡ Memory → a ≡ access_of (packet_at t bytes)
      → m ≡ first (row 4 (hint_at bytes || not (eqb (address_type_at bytes) 0)) ∷ row 5 (ltb mps (data_bytes t (access_of (packet_at t bytes)).length)) ∷ row 7 (not (enables_allowed a)) ∷ row 8 (crosses_page a) ∷ row 10 (eqb (header_dw t) 4 && eqb (word 4 bytes 8) 0) ∷ [])
      → m ≡ first (judge_rows mps t bytes)
  memory-rows-of a h e q = memory-rows h (rw e at q)

  pub message-rows : family_of t ≡ Message → m ≡ first (row 5 (ltb mps (data_bytes t (access_of (packet_at t bytes)).length)) ∷ row 9 (ltb 5 (routing_at bytes)) ∷ []) → m ≡ first (judge_rows mps t bytes)
  unfolding first hint_or_address_type_set plain_bad enables_bad page_bad routing_bad form_bad
  message-rows h q = rw h q

  pub completion-rows : family_of t ≡ Completion → m ≡ first (row 5 (ltb mps (data_bytes t (access_of (packet_at t bytes)).length)) ∷ []) → m ≡ first (judge_rows mps t bytes)
  unfolding first hint_or_address_type_set plain_bad enables_bad page_bad routing_bad form_bad
  completion-rows h q = rw h q

abbrev RegisterRows : ℕ → List ℕ → PacketType → Type 0
RegisterRows mps bytes t =
    first (judge_rows mps t bytes)
    ≡ first (row 5 (ltb mps (data_bytes t (access_of (packet_at t bytes)).length))
    ∷ row 6 (not_plain_at bytes)
    ∷ row 7 (last_given bytes)
    ∷ [])

module _ (mps : ℕ) (bytes : List ℕ) where
  io-rows : (t : PacketType) → family_of t ≡ Io → RegisterRows mps bytes t
  unfolding first hint_or_address_type_set plain_bad not_plain enables_bad page_bad routing_bad form_bad enables_allowed access_of packet_at attributes_at route_at kind_at request_at
  io-rows = io-types (RegisterRows mps bytes) (rw zero-add) (rw zero-add)

  config-rows : (t : PacketType) → family_of t ≡ Config → RegisterRows mps bytes t
  unfolding first hint_or_address_type_set plain_bad not_plain enables_bad page_bad routing_bad form_bad enables_allowed access_of packet_at attributes_at route_at kind_at config_at request_at
  config-rows = config-types (RegisterRows mps bytes) (rw zero-add) (rw zero-add) (rw zero-add) (rw zero-add)

  by-family : (t : PacketType) (f : Family) → family_of t ≡ f → is_io_or_config f ≡ true → RegisterRows mps bytes t
  by-family t Io e h = io-rows t e
  by-family t Config e h = config-rows t e
  by-family t Memory e h = cc
  by-family t Message e h = cc
  by-family t Completion e h = cc
  by-family t NoFamily e h = cc

  pub register-rows : (t : PacketType) (m : ℕ) → is_io_or_config (family_of t) ≡ true
      → m ≡ first (row 5 (ltb mps (data_bytes t (access_of (packet_at t bytes)).length)) ∷ row 6 (not_plain_at bytes) ∷ row 7 (last_given bytes) ∷ [])
      → m ≡ first (judge_rows mps t bytes)
  register-rows t m h q = q ∙ sym (by-family t (family_of t) refl h)

-- a family is listed
pub memory-listed : (t : PacketType) → family_of t ≡ Memory → is_unlisted (family_of t) ≡ false
memory-listed t h = rw h

-- address and access of a memory request
abbrev AddressRead : List ℕ → PacketType → Type 0
AddressRead bytes t = (header_dw t ≡ 4 → address_at 8 bytes ≡ address_of (route_at t bytes)) × (header_dw t ≡ 3 → address_at 4 bytes ≡ address_of (route_at t bytes))

module _ (bytes : List ℕ) (b : ℕ) (eb : b ≡ byte bytes 0) (r : Bool) (f : is_unlisted (family_of (type_at b)) ≡ false → r ≡ eqb (header_dw (type_at b)) 4) where
  module _ (h : family_of (packet_type_at bytes) ≡ Memory) where
    address_read_lem : AddressRead bytes (packet_type_at bytes)
    unfolding route_at
    address_read_lem =
        memory-types (AddressRead bytes) ((λ e. absurd (omega arith)), (λ e. refl)) ((λ e. refl), (λ e. absurd (omega arith))) ((λ e. absurd (omega arith)), (λ e. refl)) ((λ e. refl), (λ e. absurd (omega arith)))
        (packet_type_at bytes) h

    wide-memory : r ≡ eqb (header_dw (packet_type_at bytes)) 4
    wide-memory = wide_at bytes b eb (memory-listed (packet_type_at bytes) h) r f

  pub address-wide : (w : ℕ) → r ≡ true → (8 + 8 ≤ length bytes → w ≡ word 8 bytes 8) → family_of (packet_type_at bytes) ≡ Memory → 4 * header_dw (packet_type_at bytes) ≤ length bytes → w / 4 * 4 ≡ address_of (route_at (packet_type_at bytes) bytes)
  address-wide w q g h l =
      let k : header_dw (packet_type_at bytes) ≡ 4 = wide_is (header_dw (packet_type_at bytes)) r (wide-memory h) q in
      rw (g (omega (arith, l, k))) ((address_read_lem h).0 k)

  pub address-narrow : (w : ℕ) → r ≡ false → w ≡ address_at 4 bytes → family_of (packet_type_at bytes) ≡ Memory → 4 * header_dw (packet_type_at bytes) ≤ length bytes → w ≡ address_of (route_at (packet_type_at bytes) bytes)
  address-narrow w q g h l =
      g ∙ (address_read_lem h).1 (narrow-is (header_dw (packet_type_at bytes)) (byte bytes 0 / 32 % 2) r (fmt-law (byte bytes 0) (memory-listed (packet_type_at bytes) h)).0 (omega arith) (wide-memory h) q)

module _ (bytes : List ℕ) (h : family_of (packet_type_at bytes) ≡ Memory) where
  access-read : (t : PacketType) → family_of t ≡ Memory
      → record { address = address_of (route_at t bytes); length = length_at bytes; first = first_enables_at bytes; last = last_enables_at bytes } ≡ access_of (packet_at t bytes)
  unfolding access_of packet_at route_at kind_at request_at
  access-read =
      memory-types (λ t. record { address = address_of (route_at t bytes); length = length_at bytes; first = first_enables_at bytes; last = last_enables_at bytes } ≡ access_of (packet_at t bytes))
      refl refl refl refl

  pub access-law : (a n f g : ℕ) → a ≡ address_read bytes → n ≡ length_at bytes → f ≡ first_enables_at bytes → g ≡ last_enables_at bytes
      → record { address = a; length = n; first = f; last = g } ≡ access_read bytes
  access-law a n f g p q r u = rw (p, q, r, u) (access-read (packet_type_at bytes) h)

pub ruleset address-laws = (address-wide, address-narrow)

-- ---- the families

module _ (t : PacketType) (f : Family) (e : f ≡ family_of t) where
  pub family-is : (g : Family) → f ≡ g → family_of t ≡ g
  family-is g q = sym e ∙ q

  pub family-register : (f ≡ Io) ⊎ (f ≡ Config) → is_io_or_config (family_of t) ≡ true
  family-register (inl q) = rw (← e, q)
  family-register (inr q) = rw (← e, q)

  pub family-none : {A : Type 0} (m n : A) → f ≡ NoFamily → is_unlisted f ≡ false → m ≡ n
  family-none m n q z = let k : true ≡ false = rw q at z in cc

-- ---- the rows before

short_row : (h n : ℕ) → 4 * h ≤ n → false ≡ eqb h 4 && ltb n 16
short_row h n l = by (eqb h 4) refl
  where
    by : (c : Bool) → eqb h 4 ≡ c → false ≡ c && ltb n 16
    by false e = refl
    by true e = let k = eqb-true h 4 e in sym (le-ltb n 16 (omega (arith, k, l)))

module _ (bytes : List ℕ) (b : ℕ) (u : Bool) (eb : b ≡ byte bytes 0) (eu : u ≡ not (is_unlisted (family_of (type_at b)))) where
  listed-is : u ≡ not (is_unlisted (family_of (packet_type_at bytes)))
  listed-is = rw (← eb) eu

  unlisted-is : not u ≡ is_unlisted (family_of (packet_type_at bytes))
  unlisted-is = ap not listed-is ∙ twice (is_unlisted (family_of (packet_type_at bytes)))
    where
      twice : (c : Bool) → not (not c) ≡ c
      twice true = refl
      twice false = refl

  pub later-listed : not u ≡ false → Listed bytes
  later-listed z = sym unlisted-is ∙ z

  module _ (z : not u ≡ false) (f : Family) (ef : is_unlisted (family_of (type_at b)) ≡ false → f ≡ family_of (type_at b)) where
    pub later-family : f ≡ family_of (packet_type_at bytes)
    later-family = rw eb at ef (later-listed z)

    pub later-known : is_unlisted f ≡ false
    later-known = rw later-family (later-listed z)

  module _ (mps : ℕ) where
    pub later-2 : not u ≡ true → 2 ≡ first (header_rows mps bytes)
    later-2 q = here _ 2 (not u) (is_unlisted (family_of (packet_type_at bytes))) unlisted-is q

    module _ (z : not u ≡ false) (h : ℕ) (eh : h ≡ 4 * header_dw (packet_type_at bytes)) where
      pub later-1 : 12 ≤ length bytes → length bytes < h → 1 ≡ first (header_rows mps bytes)
      later-1 l q =
          let k = (fmt-law (byte bytes 0) (later-listed z)).0 in
          let e : header_dw (packet_type_at bytes) ≡ 4 = omega (arith, eh, k, l, q) in
          next _ 1 2 (not u) (is_unlisted (family_of (packet_type_at bytes))) unlisted-is z
          (here _ 1 true _ (sym (rw (e, lt-ltb (length bytes) 16 (omega (arith, eh, e, q))))) refl)

      module _ (l : h ≤ length bytes) where
        pub later-room : 4 * header_dw (packet_type_at bytes) ≤ length bytes
        later-room = rw (← eh) l

        after-1 : (m : ℕ) → m ≡ first (row 3 (not (eqb (length bytes) (bytes_called (packet_type_at bytes) bytes))) ∷ judge_rows mps (packet_type_at bytes) bytes) → m ≡ first (header_rows mps bytes)
        after-1 m q =
            next _ m 2 (not u) (is_unlisted (family_of (packet_type_at bytes))) unlisted-is z
            (next _ m 1 false _ (short_row (header_dw (packet_type_at bytes)) (length bytes) later-room) refl q)

        module _ (d n : ℕ) (ed : d ≡ data_bytes (packet_type_at bytes) (access_of (packet_at (packet_type_at bytes) bytes)).length) (es : n ≡ h + d + digest_bytes (digest_at bytes)) where
          en : n ≡ bytes_called (packet_type_at bytes) bytes
          en = size_is bytes h d n eh ed es

          pub later-3 : (length bytes ≡ n → ⊥) → 3 ≡ first (header_rows mps bytes)
          later-3 q = after-1 3 (here-ne-call _ 3 (length bytes) (bytes_called (packet_type_at bytes) bytes) n en q)

          pub later-judge : (m : ℕ) → length bytes ≡ n → m ≡ first (judge_rows mps (packet_type_at bytes) bytes) → m ≡ first (header_rows mps bytes)
          later-judge m q r = after-1 m (next-ne-call _ m 3 (length bytes) (bytes_called (packet_type_at bytes) bytes) n en q r)

pub ruleset later-laws = (later-2, later-1, later-3, later-judge)

-- ---- read

module _ (c : Settings) (bytes : List ℕ) (r : Bool) (e : r ≡ settings_listed c) where
  pub number-11 : not r ≡ true → 11 ≡ first (read_rows c bytes)
  number-11 h = here-not _ 11 r (settings_listed c) e h

  pub number-1 : not r ≡ false → length bytes < 12 → 1 ≡ first (read_rows c bytes)
  number-1 h l = next-not _ 1 11 r (settings_listed c) e h (here_lt _ 1 (length bytes) 12 l)

  pub number-later : (m : ℕ) → not r ≡ false → 12 ≤ length bytes → m ≡ first (header_rows c.mps bytes) → m ≡ first (read_rows c bytes)
  number-later m h l q = next-not _ m 11 r (settings_listed c) e h (next-lt _ m 1 (length bytes) 12 l q)

pub ruleset number-laws = (number-11, number-1, number-later)

-- what I/O and configuration must not have, of what calls gave
pub plain-law : (bytes : List ℕ) (n c a d : ℕ) (r : Bool) → n ≡ length_at bytes → c ≡ traffic_class_at bytes → a ≡ low_attributes_at bytes → d ≡ address_type_at bytes → r ≡ not_plain n c a d
    → r ≡ not_plain_at bytes
plain-law bytes n c a d r p q u v e = e ∙ rw (p, q, u, v)
