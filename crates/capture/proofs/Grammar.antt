-- A line is good exactly when it is the text of its values.
use Rattle.std.proofs.Common.{◌≡◌, ℕ, ◌+◌, ◌^◌, ◌≤◌, ◌<◌, Bool, true, false, ◌&&◌, eqb, leb, List, [], ◌∷◌, ◌++◌, length, drop, length-drop, append_assoc, refl, sym, ap, ◌∙◌, zero-le, arith, leb-true, eqb-true, eq-eqb, Some}
use mathlib.Core.Bool.{◌||◌, false≢true}
use mathlib.Core.List.{append-nil}
use lib.Seq.{drop-length}
use Rattle.bits.specs.Choice.{one_of}
use Rattle.text.specs.Number.{digits}
use Rattle.text.specs.Decimal.{decimal_text}
use Rattle.text.specs.Hex.{hex_text}
use Rattle.text.specs.Words.{word_length, begins_with}
use Rattle.text.proofs.Order.{and_left, and_right}
use Rattle.text.proofs.Bounds.{decimal-after-le, hex-after-lt}
use Rattle.text.proofs.RoundTrips.{bytes-trip}
use Rattle.text.proofs.ExactLaws.{bytes-is}
use Rattle.text.proofs.FieldTexts.{Stands, word_none, word_end_lem, decimal-says, decimal-stands, hex-says, hex-stands, key-says, key-stands, key-absent}
use Rattle.tlp.specs.Settings.{sizes, boundaries, settings_listed}
use Rattle.tlp.specs.declared.settings.Settings.{Settings}
use Rattle.capture.specs.Keys.{mps_key, mrrs_key, rcb_key, requester_key, at_key, rx_key, tx_key, length_key, packet_key}
use Rattle.capture.specs.Headers.{most32, header_line}
use Rattle.capture.specs.PacketLines.{PacketText, direction_after, front_of, packet_line}
use Rattle.capture.specs.Grammar.{header_text, HeaderExact, direction_key, packet_text, EachByte, PacketExact}
use Rattle.capture.specs.declared.header.Header.{Header}
use Rattle.capture.specs.declared.packet_line.Direction.{Direction}
use Rattle.capture.specs.declared.packet_line.Direction.TheVariants.{Rx, Tx}
use Rattle.capture.proofs.LineParts.{HeaderParts, header-parts, FrontParts, front-parts, LineParts, line-parts, direction-is}

-- ---- texts, joined from the right

join-seven : (a b c d e f g : List ℕ) → a ++ b ++ c ++ d ++ e ++ f ++ g ≡ a ++ (b ++ (c ++ (d ++ (e ++ (f ++ g)))))
join-seven a b c d e f g = simp append_assoc

join-eight : (a b c d e f g h : List ℕ) → a ++ b ++ c ++ d ++ e ++ f ++ g ++ h ≡ a ++ (b ++ (c ++ (d ++ (e ++ (f ++ (g ++ (h ++ [])))))))
join-eight a b c d e f g h = simp (append_assoc, append-nil)

-- ---- listed settings are small

abbrev within : ℕ → List ℕ → Bool
within m [] = true
within m (k ∷ ks) = leb k m && within m ks

one-within : (m x : ℕ) (ks : List ℕ) → within m ks ≡ true → one_of ks x ≡ true → x ≤ m
one-within m x [] w e = absurd (false≢true e)
one-within m x (k ∷ ks) w e = by (eqb x k) refl e (one-within m x ks (and_right (leb k m) _ w))
  where
    by : (t : Bool) → eqb x k ≡ t → t || one_of ks x ≡ true → (one_of ks x ≡ true → x ≤ m) → x ≤ m
    by true q e f = omega (arith, eqb-true x k q, leb-true k m (and_left _ _ w))
    by false q e f = f e

module _ (settings : Settings) (l : settings_listed settings ≡ true) where
  mps-small : settings.mps ≤ 4096
  unfolding settings_listed
  mps-small = one-within 4096 settings.mps sizes refl (and_left _ _ l)

  mrrs-small : settings.mrrs ≤ 4096
  unfolding settings_listed
  mrrs-small = one-within 4096 settings.mrrs sizes refl (and_left _ _ (and_right (one_of sizes settings.mps) _ l))

  rcb-small : settings.rcb ≤ 128
  unfolding settings_listed
  rcb-small = one-within 128 settings.rcb boundaries refl (and_right (one_of sizes settings.mrrs) _ (and_right (one_of sizes settings.mps) _ l))

-- ---- line one

module _ (text : List ℕ) (h : Header) where
  pub header-text : header_line text ≡ Some h → (settings_listed h.settings ≡ true) × (h.requester < 2 ^ 16) × (text ≡ header_text h)
  header-text e =
      let p : HeaderParts text h = header-parts text h e in
      let m : most32 < 2 ^ 64 = omega arith in
      let mps = decimal-says text mps_key 0 most32 m p.mps p.mps_is in
      let mrrs = decimal-says text mrrs_key p.mps.next most32 m p.mrrs p.mrrs_is in
      let rcb = decimal-says text rcb_key p.mrrs.next most32 m p.rcb p.rcb_is in
      let req = hex-says text requester_key p.rcb.next 4 p.req p.req_is in
      let z : drop p.req.next text ≡ [] = rw p.all (drop-length text) in
      let x : Header = record { settings = record { mps = p.mps.value; mrrs = p.mrrs.value; rcb = p.rcb.value }; requester = p.req.value } in
      let t : text ≡ header_text x =
      mps.0
      ∙ rw (mrrs.0, rcb.0, req.0, z)
      (sym (join-eight mps_key (decimal_text x.settings.mps) mrrs_key (decimal_text x.settings.mrrs) rcb_key (decimal_text x.settings.rcb) requester_key (digits 16 4 x.requester))) in
      let r : x.requester < 2 ^ 16 = omega (arith, hex-after-lt text requester_key p.rcb.next p.req 4 p.req_is) in
      (p.listed, rw (← p.header) r, rw (← p.header) t)

  pub text-header : settings_listed h.settings ≡ true → h.requester < 2 ^ 16 → text ≡ header_text h → header_line text ≡ Some h
  unfolding header_line
  text-header l r e =
      let x : Settings = h.settings in
      let a : List ℕ = decimal_text x.mps in
      let b : List ℕ = decimal_text x.mrrs in
      let c : List ℕ = decimal_text x.rcb in
      let d : List ℕ = digits 16 4 h.requester in
      let last : List ℕ = requester_key ++ (d ++ []) in
      let third : List ℕ = rcb_key ++ (c ++ last) in
      let second : List ℕ = mrrs_key ++ (b ++ third) in
      let spelled : text ≡ mps_key ++ (a ++ second) = e ∙ join-eight mps_key a mrrs_key b rcb_key c requester_key d in
      let mps = decimal-stands text mps_key 0 most32 x.mps second (omega (arith, mps-small x l)) (omega (arith, mps-small x l)) (word_none _) (zero-le, spelled) in
      let mrrs = decimal-stands text mrrs_key (0 + 4 + length a) most32 x.mrrs third (omega (arith, mrrs-small x l)) (omega (arith, mrrs-small x l)) (word_none _) mps.1 in
      let rcb = decimal-stands text rcb_key (0 + 4 + length a + 6 + length b) most32 x.rcb last (omega (arith, rcb-small x l)) (omega (arith, rcb-small x l)) (word_none _) mrrs.1 in
      let at : ℕ = 0 + 4 + length a + 6 + length b + 5 + length c in
      let req = hex-stands text requester_key at 4 h.requester [] (omega arith) (omega arith) (omega (arith, r)) word_end_lem rcb.1 in
      let n : at + 5 + 4 ≡ length text = omega (arith, req.1.0, length-drop (at + 5 + 4) text, ap (λ (t : List ℕ). length t) req.1.1) in
      let k : settings_listed (record { mps = x.mps; mrrs = x.mrrs; rcb = x.rcb }) ≡ true = l in
      rw (mps.0, mrrs.0, rcb.0, req.0, eq-eqb (at + 5 + 4) (length text) n, k)

pub header-exact : HeaderExact
header-exact text h = (header-text text h, λ w. text-header text h w.0 w.1 w.2)

-- ---- the lines after it

module _ (text : List ℕ) (at : ℕ) where
  direction-stands : (d : Direction) (rest : List ℕ) → Stands text at (direction_key d ++ rest)
      → (direction_after text at ≡ Some (d, at + 7)) × Stands text (at + 7) rest
  unfolding direction_after begins_with
  direction-stands Rx rest st =
      let k = key-stands text rx_key at rest st in
      (rw k.0, k.1)
  direction-stands Tx rest st =
      let k = key-stands text tx_key at rest st in
      (rw (key-absent text rx_key at (tx_key ++ rest) st refl, k.0), k.1)

word-direction : (d : Direction) (rest : List ℕ) → word_length (direction_key d ++ rest) ≡ 0
word-direction Rx rest = word_none _
word-direction Tx rest = word_none _

module _ (text : List ℕ) (p : PacketText) where
  pub packet-text : packet_line text ≡ Some p → (p.at ≤ most32) × EachByte p.bytes × (length p.bytes ≤ most32) × (text ≡ packet_text p)
  packet-text e =
      let l : LineParts text p = line-parts text p e in
      let f : FrontParts text l.f = front-parts text l.f l.front in
      let b = bytes-is (drop l.f.digits text) p.bytes l.bytes in
      let m : most32 < 2 ^ 64 = omega arith in
      let at = decimal-says text at_key 0 most32 m f.at f.at_is in
      let way = direction-is text f.at.next f.way f.way_is in
      let size = decimal-says text length_key f.way.1 most32 m f.size f.size_is in
      let hex = key-says text packet_key f.size.next l.f.digits f.digits_is in
      let p_at : f.at.value ≡ p.at = f.at_value ∙ l.at in
      let p_way : f.way.0 ≡ p.direction = f.direction ∙ l.direction in
      let p_size : f.size.value ≡ length p.bytes = f.size_value ∙ sym l.size in
      let t : text ≡ packet_text p =
      at.0
      ∙ rw (way.0, size.0, hex, b.0, p_at, p_way, p_size)
      (sym (join-seven at_key (decimal_text p.at) (direction_key p.direction) length_key (decimal_text (length p.bytes)) packet_key (hex_text p.bytes))) in (
        omega (arith, p_at, decimal-after-le text at_key 0 f.at most32 f.at_is),
        b.1,
        omega (arith, p_size, decimal-after-le text length_key f.way.1 f.size most32 f.size_is),
        t,
      )

  pub text-packet : p.at ≤ most32 → EachByte p.bytes → length p.bytes ≤ most32 → text ≡ packet_text p → packet_line text ≡ Some p
  unfolding packet_line front_of
  text-packet l small k e =
      let a : List ℕ = decimal_text p.at in
      let b : List ℕ = direction_key p.direction in
      let c : List ℕ = decimal_text (length p.bytes) in
      let d : List ℕ = hex_text p.bytes in
      let last : List ℕ = packet_key ++ d in
      let third : List ℕ = length_key ++ (c ++ last) in
      let second : List ℕ = b ++ third in
      let spelled : text ≡ at_key ++ (a ++ second) = e ∙ join-seven at_key a b length_key c packet_key d in
      let at = decimal-stands text at_key 0 most32 p.at second (omega (arith, l)) (omega (arith, l)) (word-direction p.direction third) (zero-le, spelled) in
      let way = direction-stands text (0 + 3 + length a) p.direction third at.1 in
      let size = decimal-stands text length_key (0 + 3 + length a + 7) most32 (length p.bytes) last (omega (arith, k)) (omega (arith, k)) (word_none _) way.1 in
      let hex = key-stands text packet_key (0 + 3 + length a + 7 + 5 + length c) d size.1 in
      rw (at.0, way.0, size.0, hex.0, hex.1.1, bytes-trip p.bytes small, eq-eqb (length p.bytes) (length p.bytes) refl)

pub packet-exact : PacketExact
packet-exact text p = (packet-text text p, λ w. text-packet text p w.0 w.1 w.2 w.3)
