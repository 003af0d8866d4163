-- Laws of open's 6, 7 and 8, and of the validity test that repeats them, in the words of the returns.
use Prim.Native.Nat.{ℕ, ◌+◌, ◌*◌, ◌%◌, ◌^◌, ◌<◌}
use mathlib.Core.Path.{◌≡◌, refl, sym, ◌∙◌}
use mathlib.Core.Bool.{Bool, true, false, ◌||◌, ◌&&◌, not, and-false, true≢false}
use native.Mathlib.Omega.{arith}
use lib.Dec.{eqb, leb, ltb}
use borrow.Author.Tests.{le-leb, lt-leb, lt-ltb, le-ltb, leb-true, leb-false, ltb-false}
use Rattle.bits.specs.Choice.{pick}
use Rattle.tlp.specs.Rows.{first}
use Rattle.tlp.specs.PacketTypes.{family_of, is_io_or_config, has_data}
use Rattle.tlp.specs.Packets.{type_of}
use Rattle.tlp.specs.Sizes.{data_bytes}
use Rattle.tlp.specs.declared.packet_type.Family.TheVariants.{Memory}
use Rattle.tlp.specs.declared.packet_type.PacketType.TheVariants.{MRd32, MRd64}
use Rattle.tlp.specs.Contents.{crosses_page, enables_bad, page_bad}
use Rattle.tlp_writable.specs.Given.{length_bad, common_bad, request_bad, own_bad, reserved_given, address_route_bad, route_bad}
use Rattle.byte_enables.specs.Enables.{enables_allowed}
use Rattle.reads_rules.specs.Requests.{request_packet, given_bad}
use Rattle.reads_rules.specs.Windows.{store_limit, place_bad}
use Rattle.reads_rules.specs.Validity.{valid_read}
use Rattle.reads_rules.specs.Inner.Faults.{fields_over, unaligned, read_faults}
use Rattle.reads_rules.specs.declared.request.ReadRequest.{ReadRequest}
use Rattle.reads_rules.specs.declared.read.Read.{Read}
use Rattle.tlp.specs.declared.settings.Settings.{Settings}

-- a memory request is neither I/O nor configuration, in either form
plain_form : (b : Bool) → is_io_or_config (family_of (pick b MRd32 MRd64)) ≡ false
plain_form true = refl
plain_form false = refl

-- four rows of 6, of which the third can't hold
six : (a b c d e f g : Bool) → g ≡ false
    → eqb (pick (a || (b || false)) 6 (pick (c || (d || e)) 6 (pick g 6 (pick f 6 0)))) 6 ≡ ((a || (b || (d || e))) || (c || f))
six true b c d e f g h = refl
six false true c d e f g h = refl
six false false true true e f g h = refl
six false false true false true f g h = refl
six false false true false false f g h = refl
six false false false true e f g h = refl
six false false false false true f g h = refl
six false false false false false true g h = rw h
six false false false false false false g h = rw h

pub given_law : (q : ReadRequest) (r : Bool) → q.access.address < 2 ^ 64 → r ≡ (fields_over q || (length_bad q.access.length || unaligned q)) → r ≡ given_bad q
unfolding given_bad first request_packet common_bad own_bad request_bad reserved_given route_bad address_route_bad type_of
given_law q r h e =
    rw (lt-leb (2 ^ 64) q.access.address h, plain_form)
    (e ∙ sym (six (leb 8 q.traffic_class) (leb 8 q.attributes) (length_bad q.access.length) (leb 16 q.access.first) (leb 16 q.access.last) (unaligned q) false refl))

-- what open writes is a memory request without data, in either form
pub read-type : (requester tag : ℕ) (q : ReadRequest)
    → (family_of (type_of (request_packet requester tag q)) ≡ Memory) × ((n : ℕ) → data_bytes (type_of (request_packet requester tag q)) n ≡ 0)
unfolding request_packet type_of data_bytes
read-type requester tag q = go (ltb q.access.address (2 ^ 32))
  where
    go : (narrow : Bool) → (family_of (pick narrow MRd32 MRd64) ≡ Memory) × ((n : ℕ) → pick (has_data (pick narrow MRd32 MRd64)) (4 * n) 0 ≡ 0)
    go true = (refl, λ n. refl)
    go false = (refl, λ n. refl)

-- ---- validity

-- the two tests of an order deny each other
below : (a b : ℕ) → ltb a b ≡ not (leb b a)
below a b = go (leb b a) refl
  where
    go : (x : Bool) → leb b a ≡ x → ltb a b ≡ not x
    go true e = le-ltb a b (leb-true b a e)
    go false e = lt-ltb a b (leb-false b a e)

-- f: a field exceeded, d: unaligned, t: p not below L, c: 8, m: 22, p: 23, e: enables allowed, l: a length that is none
decided : (f d t c m p e l : Bool) → (t ≡ false → c ≡ false → l ≡ false)
    → not (f || (d || (t || (c || (m || (p || not e)))))) ≡ (eqb (pick (f || (l || d)) 6 (pick (not e) 7 (pick c 8 (pick m 22 (pick p 23 0))))) 0 && not t)
decided true d t c m p e l h = refl
decided false true t c m p e true h = refl
decided false true t c m p e false h = refl
decided false false true c m p e l h = sym (and-false (eqb (pick (l || false) 6 (pick (not e) 7 (pick c 8 (pick m 22 (pick p 23 0))))) 0))
decided false false false true m p e true h = refl
decided false false false true m p true false h = refl
decided false false false true m p false false h = refl
decided false false false false m p e true h = absurd (true≢false (h refl refl))
decided false false false false true p true false h = refl
decided false false false false true p false false h = refl
decided false false false false false true true false h = refl
decided false false false false false true false false h = refl
decided false false false false false false true false h = refl
decided false false false false false false false false h = refl

module _ (settings : Settings) (x : Read) where
  -- a length that p is below and that stays within its page
  length-good : leb x.request.access.length x.taken ≡ false → crosses_page x.request.access ≡ false → length_bad x.request.access.length ≡ false
  length-good t c =
      let a = leb-false x.request.access.length x.taken t in
      let b = ltb-false 4096 (x.request.access.address % 4096 + 4 * x.request.access.length) c in
      rw (le-leb 1 x.request.access.length (omega arith), le-leb x.request.access.length 1024 (omega arith))

  pub not-bad : x.request.access.address < 2 ^ 64 → not (read_faults settings x) ≡ valid_read settings x
  unfolding valid_read first enables_bad page_bad read_faults
  not-bad h =
      rw (← given_law x.request _ h refl, below x.taken x.request.access.length)
      (decided (fields_over x.request) (unaligned x.request) (leb x.request.access.length x.taken) (crosses_page x.request.access) (ltb settings.mrrs (4 * x.request.access.length))
      (place_bad x.request store_limit) (enables_allowed x.request.access) (length_bad x.request.access.length) length-good)
