-- What the writer's tests say of a packet's numbers: each fits its field.
use Prim.Native.Nat.{ℕ, ◌^◌, ◌<◌, ◌≤◌}
use mathlib.Core.Path.{◌≡◌}
use mathlib.Core.Bool.{Bool, true, false, ◌&&◌, not, and-eq-true_iff, true≢false}
use lib.Dec.{leb, eqb}
use borrow.Author.Tests.{leb-false, leb-true, not-false, eqb-true}
use Rattle.tlp.specs.declared.packet.Request.{Request}
use Rattle.tlp.specs.declared.packet.ConfigRequest.{ConfigRequest}
use Rattle.tlp.specs.declared.packet.MessageRequest.{MessageRequest}
use Rattle.tlp.specs.declared.packet.CompletionHeader.{CompletionHeader}
use Rattle.tlp.specs.declared.packet.Packet.{Packet}
use Rattle.tlp_demands.proofs.Tests.{left-no, right-no}
use Rattle.tlp_writable.specs.Given.{over, outside, length_bad, common_bad, request_bad, config_bad, message_bad, completion_bad}

pub fits : (w x : ℕ) → over w x ≡ false → x < 2 ^ w
fits w x e = leb-false (2 ^ w) x e

pub inside : (most n : ℕ) → outside most n ≡ false → (1 ≤ n) × (n ≤ most)
inside most n e =
    let h = (and-eq-true_iff (leb 1 n) (leb n most)).0 (not-false (leb 1 n && leb n most) e) in
    (leb-true 1 n h.0, leb-true n most h.1)

ruleset no = (left-no, right-no)

-- ---- a record for each layout

pub record RequestFits (q : Request) : Type 0 where
  pub requester : q.requester < 2 ^ 16
  pub tag : q.tag < 2 ^ 8
  pub length : length_bad q.length ≡ false
  pub first : q.first < 2 ^ 4
  pub last : q.last < 2 ^ 4

pub request-fits : (q : Request) → request_bad q ≡ false → RequestFits q
unfolding request_bad
request-fits q e =
    record {
      requester = fits 16 q.requester (search no);
      tag = fits 8 q.tag (search no);
      length = search no;
      first = fits 4 q.first (search no);
      last = fits 4 q.last (search no);
    }

pub record ConfigFits (q : ConfigRequest) : Type 0 where
  pub request : request_bad q.request ≡ false
  pub extended_register : q.extended_register < 2 ^ 4
  pub register : q.register < 2 ^ 6

pub config-fits : (q : ConfigRequest) → config_bad q ≡ false → ConfigFits q
unfolding config_bad
config-fits q e =
    record {
      request = search no;
      extended_register = fits 4 q.extended_register (search no);
      register = fits 6 q.register (search no);
    }

pub record MessageFits (m : MessageRequest) : Type 0 where
  pub requester : m.requester < 2 ^ 16
  pub tag : m.tag < 2 ^ 8
  pub code : m.code < 2 ^ 8
  pub body : m.body < 2 ^ 64

pub message-fits : (m : MessageRequest) → message_bad m ≡ false → MessageFits m
unfolding message_bad
message-fits m e =
    record {
      requester = fits 16 m.requester (search no);
      tag = fits 8 m.tag (search no);
      code = fits 8 m.code (search no);
      body = fits 64 m.body (search no);
    }

pub record CompletionFits (c : CompletionHeader) : Type 0 where
  pub completer : c.completer < 2 ^ 16
  pub status : c.status < 2 ^ 3
  pub byte_count : (1 ≤ c.byte_count) × (c.byte_count ≤ 4096)
  pub tag : c.tag < 2 ^ 8
  pub lower_address : c.lower_address < 2 ^ 7

pub completion-fits : (c : CompletionHeader) → completion_bad c ≡ false → CompletionFits c
unfolding completion_bad
completion-fits c e =
    record {
      completer = fits 16 c.completer (search no);
      status = fits 3 c.status (search no);
      byte_count = inside 4096 c.byte_count (search no);
      tag = fits 8 c.tag (search no);
      lower_address = fits 7 c.lower_address (search no);
    }

pub record CommonFits (p : Packet) : Type 0 where
  pub traffic_class : p.traffic_class < 2 ^ 3
  pub attributes : p.attributes < 2 ^ 3
  pub digest : p.digest < 2 ^ 32
  pub none : p.has_digest ≡ false → p.digest ≡ 0

digest-none : (b : Bool) (d : ℕ) → not b && not (eqb d 0) ≡ false → b ≡ false → d ≡ 0
digest-none true d e n = absurd (true≢false n)
digest-none false d e n = eqb-true d 0 (not-false (eqb d 0) e)

pub common-fits : (p : Packet) → common_bad p ≡ false → CommonFits p
unfolding common_bad
common-fits p e =
    record {
      traffic_class = fits 3 p.traffic_class (search no);
      attributes = fits 3 p.attributes (search no);
      digest = fits 32 p.digest (search no);
      none = digest-none p.has_digest p.digest (search no);
    }
