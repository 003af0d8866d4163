-- Bytes 0 to 3, which all kinds share, read back.
use Prim.Native.Nat.{ℕ, ◌+◌, ◌*◌, ◌%◌, ◌^◌, ◌<◌, ◌≤◌}
use mathlib.Core.Path.{◌≡◌, sym, ◌∙◌}
use mathlib.Core.Bool.{Bool, true, false, ◌&&◌, not}
use mathlib.Core.List.{List, ◌++◌}
use mathlib.Core.Logic.{⊎_elim}
use native.Mathlib.Omega.{arith}
use native.Mathlib.Nat.{eq-or-lt_of_le, mod_self, mod-eq_of_lt}
use lib.Dec.{eqb}
use borrow.Author.Tests.{eq-eqb, ne_eqb, eqb-true, not-false}
use Rattle.bits.specs.Choice.{pick, flag}
use Rattle.bits.specs.Field.{field, low}
use Rattle.bits.proofs.FieldLaws.{field_at}
use Rattle.tlp.specs.PacketTypes.{family_of, is_io_or_config}
use Rattle.tlp.specs.Packets.{type_of, access_of}
use Rattle.tlp.specs.Sizes.{or_most, length_at, digest_at}
use Rattle.tlp.specs.declared.packet.Packet.{Packet}
use Rattle.tlp_read.specs.Fields.{traffic_class_at, attributes_at, hint_at, address_type_at, poisoned_at}
use Rattle.tlp_write.specs.Layout.{front_bytes}
use Rattle.tlp_writable.specs.Given.{length_bad, reserved_given}
use Rattle.tlp_demands.proofs.Fits.{CommonFits, inside}

pub flag-lt : (b : Bool) → flag b < 2
flag-lt true = omega arith
flag-lt false = omega arith

pub flag-back : (b : Bool) (x : ℕ) → x ≡ flag b → eqb x 1 ≡ b
flag-back true x e = rw e
flag-back false x e = rw e

-- a count of 1 to most, written as its remainder
pub count-back : (most n k : ℕ) → 1 ≤ n → n ≤ most → k ≡ n % most → or_most most k ≡ n
unfolding or_most
count-back most n k a b e =
    ⊎_elim
    (λ m. let z : k ≡ 0 = e ∙ rw m (mod_self most) in rw (eq-eqb k 0 z) (sym m))
    (λ l. let z : k ≡ n = e ∙ mod-eq_of_lt l in rw (z, ne_eqb n 0 (λ q. omega arith)))
    (eq-or-lt_of_le b)

-- ---- bytes 1 to 3, over the numbers in them

module _ (tc attr : ℕ) (c : tc < 2 ^ 3) where
  abbrev byte1 : ℕ
  byte1 = low tc 3 * 16 + field attr 2 1 * 4

  tc-back : field byte1 4 3 ≡ tc
  tc-back = omega arith

  high-back : field byte1 2 1 ≡ field attr 2 1
  high-back = field_at 2 1 (low tc 3 * 2) (field attr 2 1) 0 byte1 (omega arith) (omega arith) (omega arith)

  th-back : low byte1 1 ≡ 0
  th-back = omega arith

module _ (attr td ep len : ℕ) (d : td < 2) (e : ep < 2) where
  abbrev byte2 : ℕ
  byte2 = td * 128 + ep * 64 + low attr 2 * 16 + field len 8 2

  td-back : field byte2 7 1 ≡ td
  td-back = field_at 7 1 0 td (ep * 64 + low attr 2 * 16 + field len 8 2) byte2 d (omega arith) (omega arith)

  ep-back : field byte2 6 1 ≡ ep
  ep-back = field_at 6 1 td ep (low attr 2 * 16 + field len 8 2) byte2 e (omega arith) (omega arith)

  low-back : field byte2 4 2 ≡ low attr 2
  low-back = field_at 4 2 (td * 2 + ep) (low attr 2) (field len 8 2) byte2 (omega arith) (omega arith) (omega arith)

  at_back : field byte2 2 2 ≡ 0
  at_back = field_at 2 2 (td * 8 + ep * 4 + low attr 2) 0 (field len 8 2) byte2 (omega arith) (omega arith) (omega arith)

  len-back : low byte2 2 * 256 + low len 8 ≡ len % 1024
  len-back = omega arith

-- Attr[2] is read only where the kind has it
attr-back : (reserved : Bool) (attr high rest : ℕ) → attr < 2 ^ 3 → reserved && not (eqb (field attr 2 1) 0) ≡ false
    → high ≡ field attr 2 1 → rest ≡ low attr 2 → pick reserved 0 high * 4 + rest ≡ attr
attr-back true attr high rest f r h l = omega (arith, eqb-true (field attr 2 1) 0 (not-false (eqb (field attr 2 1) 0) r))
attr-back false attr high rest f r h l = omega arith

-- ---- the same of a packet

pub record FrontBack (p : Packet) (s : List ℕ) : Type 0 where
  pub traffic_class : traffic_class_at s ≡ p.traffic_class
  pub attributes : attributes_at (type_of p) s ≡ p.attributes
  pub hint : hint_at s ≡ false
  pub address_type : address_type_at s ≡ 0
  pub poisoned : poisoned_at s ≡ p.poisoned
  pub has_digest : digest_at s ≡ p.has_digest
  pub length : length_bad (access_of p).length ≡ false → length_at s ≡ (access_of p).length

pub front-back : (p : Packet) (rest : List ℕ) → CommonFits p → reserved_given p ≡ false → FrontBack p (front_bytes p ++ rest)
unfolding front_bytes reserved_given attributes_at digest_at length_at
front-back p rest v r =
    let tc = p.traffic_class in
    let attr = p.attributes in
    let td = flag p.has_digest in
    let ep = flag p.poisoned in
    let len = (access_of p).length in
    let d = flag-lt p.has_digest in
    let e = flag-lt p.poisoned in
    record {
      traffic_class = tc-back tc attr v.traffic_class;
      attributes =
          attr-back (is_io_or_config (family_of (type_of p))) attr _ _ v.attributes r (high-back tc attr v.traffic_class)
          (low-back attr td ep len d e);
      hint = rw (th-back tc attr v.traffic_class);
      address_type = at_back attr td ep len d e;
      poisoned = flag-back p.poisoned _ (ep-back attr td ep len d e);
      has_digest = flag-back p.has_digest _ (td-back attr td ep len d e);
      length = λ b. let h = inside 1024 len b in count-back 1024 len _ h.0 h.1 (len-back attr td ep len d e);
    }
