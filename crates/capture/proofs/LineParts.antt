-- What a good line is made of: its fields in turn.
use Rattle.std.proofs.Common.{◌≡◌, ℕ, ◌+◌, ◌&&◌, true, eqb, List, ◌++◌, length, drop, refl, sym, ap, ◌∙◌, eqb-true, Option, Some, None, option_map}
use Rattle.std.specs.Option.{option_or}
use Rattle.std.proofs.lemmas.Option.{none-some, option_and_then_some}
use Rattle.text.specs.Hex.{bytes_spelled}
use Rattle.text.specs.Fields.{decimal_after, hex_after, key_after}
use Rattle.text.specs.declared.fields.Field.{Field}
use Rattle.text.proofs.Order.{and_left, and_right}
use Rattle.text.proofs.Bounds.{picked}
use Rattle.text.proofs.FieldPlaces.{key-placed}
use Rattle.text.proofs.FieldTexts.{key-says}
use Rattle.tlp.specs.Settings.{settings_listed}
use Rattle.tlp.specs.declared.settings.Settings.{Settings}
use Rattle.capture.specs.Keys.{mps_key, mrrs_key, rcb_key, requester_key, at_key, rx_key, tx_key, length_key, packet_key}
use Rattle.capture.specs.Headers.{most32, header_of, after_rcb, after_mrrs, after_mps, header_line}
use Rattle.capture.specs.PacketLines.{PacketText, direction_after, after_length, after_direction, after_at, front_of, counted, text_of, packet_line}
use Rattle.capture.specs.Grammar.{direction_key}
use Rattle.capture.specs.declared.header.Header.{Header}
use Rattle.capture.specs.declared.packet_line.Direction.{Direction}
use Rattle.capture.specs.declared.packet_line.Direction.TheVariants.{Rx, Tx}
use Rattle.capture.specs.declared.packet_line.Front.{Front}

-- ---- line one

pub record HeaderParts (text : List ℕ) (h : Header) : Type 0 where
  pub mps : Field
  pub mrrs : Field
  pub rcb : Field
  pub req : Field
  pub mps_is : decimal_after text 0 mps_key most32 ≡ Some mps
  pub mrrs_is : decimal_after text mps.next mrrs_key most32 ≡ Some mrrs
  pub rcb_is : decimal_after text mrrs.next rcb_key most32 ≡ Some rcb
  pub req_is : hex_after text rcb.next requester_key 4 ≡ Some req
  pub all : req.next ≡ length text
  pub listed : settings_listed h.settings ≡ true
  pub header : record { settings = record { mps = mps.value; mrrs = mrrs.value; rcb = rcb.value }; requester = req.value } ≡ h

pub header-parts : (text : List ℕ) (h : Header) → header_line text ≡ Some h → HeaderParts text h
unfolding header_line
header-parts text h e =
    option_and_then_some (after_mps text) (decimal_after text 0 mps_key most32) h e (λ (mps : Field) a q.
    option_and_then_some (after_mrrs text mps) (decimal_after text mps.next mrrs_key most32) h q (λ (mrrs : Field) b r.
    option_and_then_some (after_rcb text mps mrrs) (decimal_after text mrrs.next rcb_key most32) h r (λ (rcb : Field) c s.
    let settings : Settings = record { mps = mps.value; mrrs = mrrs.value; rcb = rcb.value } in
    option_and_then_some (header_of text settings) (hex_after text rcb.next requester_key 4) h s (λ (req : Field) d t.
    let f = picked (eqb req.next (length text) && settings_listed settings) (Some (record { settings = settings; requester = req.value })) h t in
    let k : record { settings = settings; requester = req.value } ≡ h = cc f.1 in
    record {
      mps = mps;
      mrrs = mrrs;
      rcb = rcb;
      req = req;
      mps_is = a;
      mrrs_is = b;
      rcb_is = c;
      req_is = d;
      all = eqb-true req.next (length text) (and_left _ _ f.0);
      listed = rw (← k) (and_right (eqb req.next (length text)) _ f.0);
      header = k;
    }))))

-- ---- the lines after it

pub record FrontParts (text : List ℕ) (f : Front) : Type 0 where
  pub at : Field
  pub way : Direction × ℕ
  pub size : Field
  pub at_is : decimal_after text 0 at_key most32 ≡ Some at
  pub way_is : direction_after text at.next ≡ Some way
  pub size_is : decimal_after text way.1 length_key most32 ≡ Some size
  pub digits_is : key_after text size.next packet_key ≡ Some f.digits
  pub at_value : at.value ≡ f.at
  pub direction : way.0 ≡ f.direction
  pub size_value : size.value ≡ f.size

map-some : {A B : Type 0} (g : A → B) (o : Option A) (y : B) → option_map g o ≡ Some y → (x : A) × ((o ≡ Some x) × (g x ≡ y))
map-some g None y e = absurd (none-some y e)
map-some g (Some x) y e = (x, (refl, cc))

pub front-parts : (text : List ℕ) (f : Front) → front_of text ≡ Some f → FrontParts text f
unfolding front_of
front-parts text f e =
    option_and_then_some (after_at text) (decimal_after text 0 at_key most32) f e (λ (at : Field) a q.
    option_and_then_some (after_direction text at) (direction_after text at.next) f q (λ (way : Direction × ℕ) b r.
    option_and_then_some (after_length text at way) (decimal_after text way.1 length_key most32) f r (λ (size : Field) c s.
    let g : ℕ → Front = λ (digits : ℕ). record { at = at.value; direction = way.0; size = size.value; digits = digits } in
    let m = map-some g (key_after text size.next packet_key) f s in
    let k = m.1.1 in
    record {
      at = at;
      way = way;
      size = size;
      at_is = a;
      way_is = b;
      size_is = c;
      digits_is = m.1.0 ∙ ap (λ (x : Front). Some x.digits) k;
      at_value = ap (λ (x : Front). x.at) k;
      direction = ap (λ (x : Front). x.direction) k;
      size_value = ap (λ (x : Front). x.size) k;
    })))

pub record LineParts (text : List ℕ) (p : PacketText) : Type 0 where
  pub f : Front
  pub front : front_of text ≡ Some f
  pub bytes : bytes_spelled (drop f.digits text) ≡ Some p.bytes
  pub size : length p.bytes ≡ f.size
  pub at : f.at ≡ p.at
  pub direction : f.direction ≡ p.direction

pub line-parts : (text : List ℕ) (p : PacketText) → packet_line text ≡ Some p → LineParts text p
unfolding packet_line
line-parts text p e =
    option_and_then_some (text_of text) (front_of text) p e (λ (f : Front) a q.
    option_and_then_some (counted f) (bytes_spelled (drop f.digits text)) p q (λ (bytes : List ℕ) b r.
    let g = picked (eqb (length bytes) f.size) (Some (record { at = f.at; direction = f.direction; bytes = bytes })) p r in
    let k : record { at = f.at; direction = f.direction; bytes = bytes } ≡ p = cc g.1 in
    let z : bytes ≡ p.bytes = ap (λ (x : PacketText). x.bytes) k in
    record {
      f = f;
      front = a;
      bytes = b ∙ ap Some z;
      size = rw (← z) (eqb-true (length bytes) f.size g.0);
      at = ap (λ (x : PacketText). x.at) k;
      direction = ap (λ (x : PacketText). x.direction) k;
    }))

-- ---- the direction

module _ (text : List ℕ) (at : ℕ) (way : Direction × ℕ) where
  abbrev Is : Type 0
  Is = (drop at text ≡ direction_key way.0 ++ drop way.1 text) × (at + 7 ≡ way.1)

  tx-is : (o : Option ℕ) → o ≡ key_after text at tx_key → option_map (λ (next : ℕ). (Tx, next)) o ≡ Some way → Is
  tx-is None k e = absurd (none-some way e)
  tx-is (Some next) k e =
      let w : (Tx, next) ≡ way = cc in
      rw (← w) (key-says text tx_key at next (sym k), (key-placed text tx_key at next (sym k)).0)

  rx-is : (o : Option ℕ) → o ≡ key_after text at rx_key
      → option_or (option_map (λ (next : ℕ). (Rx, next)) o) (option_map (λ (next : ℕ). (Tx, next)) (key_after text at tx_key)) ≡ Some way → Is
  rx-is None k e = tx-is (key_after text at tx_key) refl e
  rx-is (Some next) k e =
      let w : (Rx, next) ≡ way = cc in
      rw (← w) (key-says text rx_key at next (sym k), (key-placed text rx_key at next (sym k)).0)

  pub direction-is : direction_after text at ≡ Some way → Is
  unfolding direction_after
  direction-is e = rx-is (key_after text at rx_key) refl e
