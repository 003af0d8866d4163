-- The header from byte 4 on, read back, layout by layout: requests, configuration, messages, completions.
use Prim.Native.Nat.{ℕ, ◌+◌, ◌*◌, ◌/◌, ◌%◌, ◌^◌, ◌<◌, ◌≤◌}
use mathlib.Core.Path.{◌≡◌, refl, sym, ap, ◌∙◌}
use mathlib.Core.Bool.{false, true≢false}
use mathlib.Core.List.{List, [], ◌∷◌, ◌++◌}
use native.Mathlib.Omega.{arith}
use native.Mathlib.Nat.{div-div-eq-div-mul}
use lib.Dec.{eqb}
use borrow.Author.Tests.{ne_eqb, eqb-true, not-false}
use Rattle.bits.specs.Field.{field, low}
use Rattle.bits.specs.Word.{word, bytes}
use Rattle.bits.proofs.FieldLaws.{field_at}
use Rattle.bits.proofs.WordLaws.{word_bytes}
use Rattle.tlp.specs.Packets.{address_of, id_of}
use Rattle.tlp.specs.Sizes.{length_at}
use Rattle.tlp.specs.declared.packet.Implicit.TheVariants.{Root, Broadcast, Local, Gathered}
use Rattle.tlp.specs.declared.packet.Route.{Route}
use Rattle.tlp.specs.declared.packet.Route.TheVariants.{Address, Id, Implicit as Implied}
use Rattle.tlp.specs.declared.packet.Request.{Request}
use Rattle.tlp.specs.declared.packet.ConfigRequest.{ConfigRequest}
use Rattle.tlp.specs.declared.packet.MessageRequest.{MessageRequest}
use Rattle.tlp.specs.declared.packet.CompletionHeader.{CompletionHeader}
use Rattle.tlp_read.specs.Fields.{request_at, config_at, message_at, completion_at, implicit_at, message_route_at}
use Rattle.tlp_write.specs.Layout.{routing, request_bytes, config_bytes, message_bytes, completion_bytes}
use Rattle.bits.specs.Choice.{flag}
use Rattle.tlp_writable.specs.Given.{over, length_bad, request_bad, config_bad, message_bad, completion_bad, address_route_bad, id_route_bad, message_route_bad}
use Rattle.tlp_demands.proofs.Tests.{left-no, right-no}
use Rattle.tlp_demands.proofs.Fits.{fits, RequestFits, request-fits, ConfigFits, config-fits, message-fits, CompletionFits, completion-fits}
use Rattle.tlp_demands.proofs.Front.{flag-lt, flag-back, count-back}

-- ---- the numbers in the bytes

-- of an address of 4 GiB or more the top four bytes are not 0
pub top-word : (a : ℕ) (rest : List ℕ) → 2 ^ 32 ≤ a → a < 2 ^ 64 → eqb (word 4 (bytes 8 a ++ rest) 0) 0 ≡ false
top-word a rest l h = ne_eqb (word 4 (bytes 8 a ++ rest) 0) 0 (λ z. omega (arith, word_bytes 8 a rest h))

-- the ID in the first two of eight bytes
id-word : (b : ℕ) (rest : List ℕ) → word 2 (bytes 8 b ++ rest) 0 ≡ field b 48 16
id-word b rest = omega (arith, div-div-eq-div-mul b (2 ^ 48) 256)

module _ (q : Request) (v : RequestFits q) where
  abbrev enables : ℕ
  enables = low q.last 4 * 16 + low q.first 4

  last-back : field enables 4 4 ≡ q.last
  last-back = omega (arith, v.last)

  first_back : low enables 4 ≡ q.first
  first_back = omega (arith, v.first)

module _ (q : ConfigRequest) (v : ConfigFits q) where
  extended-back : low (low q.extended_register 4) 4 ≡ q.extended_register
  extended-back = omega (arith, v.extended_register)

  register-back : field (low q.register 6 * 4) 2 6 ≡ q.register
  register-back = omega (arith, v.register)

module _ (c : CompletionHeader) (v : CompletionFits c) where
  abbrev modified : ℕ
  modified = flag c.byte_count_modified

  abbrev high : ℕ
  high = field c.byte_count 8 4

  abbrev counted : ℕ
  counted = low c.status 3 * 32 + modified * 16 + high

  modified-lt : modified < 2
  modified-lt = flag-lt c.byte_count_modified

  status-back : field counted 5 3 ≡ c.status
  status-back = field_at 5 3 0 c.status (modified * 16 + high) counted v.status (omega (arith, modified-lt)) (omega (arith, v.status))

  modified-back : field counted 4 1 ≡ modified
  modified-back = field_at 4 1 (low c.status 3) modified high counted modified-lt (omega arith) (omega arith)

  remainder-back : low counted 4 * 256 + low c.byte_count 8 ≡ c.byte_count % 4096
  remainder-back = omega arith

  lower-back : low (low c.lower_address 7) 7 ≡ c.lower_address
  lower-back = omega (arith, v.lower_address)

-- ---- the layouts

-- a length that is not refused is read back from bytes 2 and 3
abbrev pub LengthBack : ℕ → ℕ → ℕ → Type 0
LengthBack b2 b3 n = length_bad n ≡ false → length_at (0 ∷ 0 ∷ b2 ∷ b3 ∷ []) ≡ n

module _ (b0 b1 b2 b3 : ℕ) (rest : List ℕ) where
  abbrev laid : List ℕ → List ℕ
  laid own = b0 ∷ b1 ∷ b2 ∷ b3 ∷ (own ++ rest)

  pub request-back : (q : Request) (own : List ℕ) → request_bad q ≡ false → LengthBack b2 b3 q.length → request_at (laid (request_bytes q ++ own)) ≡ q
  unfolding request_at length_at
  request-back q own o l = let v = request-fits q o in λ i. record {
    requester = word_bytes 2 q.requester [] v.requester i;
    tag = q.tag;
    length = l v.length i;
    first = first_back q v i;
    last = last-back q v i;
  }

  pub config-back : (target : ℕ) (q : ConfigRequest) → config_bad q ≡ false → LengthBack b2 b3 q.request.length
      → config_at (laid (config_bytes target q)) ≡ q
  unfolding config_at
  config-back target q o l = let v = config-fits q o in λ i. record {
    request = request-back q.request (bytes 2 target ++ (low q.extended_register 4 ∷ (low q.register 6 * 4) ∷ [])) v.request l i;
    extended_register = extended-back q v i;
    register = register-back q v i;
  }

  pub message-back : (m : MessageRequest) → message_bad m ≡ false → message_at (laid (message_bytes m)) ≡ m
  unfolding message_at
  message-back m o = let v = message-fits m o in λ i. record {
    requester = word_bytes 2 m.requester [] v.requester i;
    tag = m.tag;
    code = m.code;
    body = word_bytes 8 m.body [] v.body i;
  }

  pub completion-back : (requester : ℕ) (c : CompletionHeader) → completion_bad c ≡ false → completion_at (laid (completion_bytes requester c)) ≡ c
  unfolding completion_at
  completion-back requester c o = let v = completion-fits c o in λ i. record {
    completer = word_bytes 2 c.completer [] v.completer i;
    status = status-back c v i;
    byte_count_modified = flag-back c.byte_count_modified _ (modified-back c v) i;
    byte_count = count-back 4096 c.byte_count _ v.byte_count.0 v.byte_count.1 (remainder-back c v) i;
    tag = c.tag;
    lower_address = lower-back c v i;
  }

-- ---- the routes

pub record AddressFits (w : ℕ) (r : Route) : Type 0 where
  pub same : Address (address_of r) ≡ r
  pub fits : address_of r < 2 ^ w
  pub on_four : address_of r % 4 ≡ 0

pub address-fits : (w : ℕ) (r : Route) → address_route_bad w r ≡ false → AddressFits w r
unfolding address_route_bad
address-fits w (Address a) e = record {
  same = refl;
  fits = fits w a (left-no _ _ e);
  on_four = eqb-true (a % 4) 0 (not-false (eqb (a % 4) 0) (right-no (over w a) _ e));
}
address-fits w (Id i) e = absurd (true≢false e)
address-fits w (Implied i) e = absurd (true≢false e)

-- the address is read back from k bytes
pub address-route : (k : ℕ) {w : ℕ} {r : Route} → AddressFits w r → address_of r < 256 ^ k
    → Address (word k (bytes k (address_of r) ++ []) 0 / 4 * 4) ≡ r
address-route k {r} a h = ap Address (on_four (word_bytes k (address_of r) [] h)) ∙ a.same
  where
    on_four : {x : ℕ} → x ≡ address_of r → x / 4 * 4 ≡ address_of r
    on_four e = omega (arith, a.on_four)

pub id-route : (r : Route) → id_route_bad r ≡ false → Id (word 2 (bytes 2 (id_of r) ++ []) 0) ≡ r
unfolding id_route_bad
id-route (Address a) e = absurd (true≢false e)
id-route (Id i) e = ap Id (word_bytes 2 i [] (fits 16 i e))
id-route (Implied i) e = absurd (true≢false e)

-- a message's routing fits three bits, and is none of those that are refused
pub routing-small : (r : Route) → routing r ≤ 5
routing-small (Address a) = omega arith
routing-small (Id i) = omega arith
routing-small (Implied Root) = omega arith
routing-small (Implied Broadcast) = omega arith
routing-small (Implied Local) = omega arith
routing-small (Implied Gathered) = omega arith

pub message-route : (r : Route) (m : MessageRequest) (b0 b1 b2 b3 : ℕ) (rest : List ℕ) → message_bad m ≡ false
    → message_route_bad m.body r ≡ false → low b0 3 ≡ routing r → message_route_at (laid b0 b1 b2 b3 rest (message_bytes m)) ≡ r
unfolding message_route_bad message_route_at implicit_at
message-route (Address a) m b0 b1 b2 b3 rest o e g =
    rw g (ap Address (word_bytes 8 m.body [] (message-fits m o).body ∙ sym (eqb-true a m.body (not-false _ e))))
message-route (Id i) m b0 b1 b2 b3 rest o e g =
    rw g (ap Id (id-word m.body [] ∙ sym (eqb-true i (field m.body 48 16) (not-false _ e))))
message-route (Implied Root) m b0 b1 b2 b3 rest o e g = rw g
message-route (Implied Broadcast) m b0 b1 b2 b3 rest o e g = rw g
message-route (Implied Local) m b0 b1 b2 b3 rest o e g = rw g
message-route (Implied Gathered) m b0 b1 b2 b3 rest o e g = rw g
