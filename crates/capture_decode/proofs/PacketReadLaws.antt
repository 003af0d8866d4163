-- What packet_read answers: return by return; for a packet that is laid whole; and for what is printed.
use Prim.Native.Nat.{ℕ, ◌+◌, ◌-◌, ◌*◌, ◌≤◌, ◌<◌, min}
use mathlib.Core.Logic.{⊎_elim}
use mathlib.Core.Path.{◌≡◌, refl, sym, ◌∙◌, ap}
use mathlib.Core.Bool.{Bool, true, false}
use mathlib.Core.List.{List}
use Rattle.std.specs.Prelude.{Option, Some, None, Result, Ok, Err}
use native.Mathlib.Nat.{sub-zero}
use native.Mathlib.Omega.{arith}
use lib.ListN.{length, take, drop, length-take}
use lib.Seq.{take-take, take_all, take-append_seam}
use borrow.Author.Tests.{le-leb}
use Rattle.bits.specs.Choice.{pick}
use Rattle.bits.specs.Put.{put}
use Rattle.bits.proofs.PutLaws.{length-put}
use Rattle.text.specs.Laid.{fits}
use Rattle.text.proofs.LaidLaws.{laid-fits}
use Rattle.text.proofs.Order.{lt-or-le}
use Rattle.tlp.specs.declared.settings.Settings.{Settings}
use Rattle.tlp.specs.declared.packet.Packet.{Packet}
use Rattle.tlp.specs.declared.refusal.Refusal.{Refusal}
use Rattle.tlp.specs.declared.refusal.Refusal.TheVariants.{OutputTooShort, BadLine}
use Rattle.tlp_read.specs.Read.{read_packet}
use Rattle.capture_print.specs.Outputs.{output_line}
use Rattle.capture.specs.PacketLines.{PacketText, packet_line, entry_answer, packet_over}
use Rattle.capture.specs.declared.packet_line.Entry.{Entry}
use Rattle.capture.proofs.PacketBytes.{packet-bytes}
use Rattle.capture_decode.specs.Decode.{text_read, refused_count}
use Rattle.capture_decode.specs.PacketReads.{standing, packet_read}
use Rattle.capture_decode.specs.Printed.{printed_front}
use Rattle.capture_decode.proofs.FrontLaws.{front-output, front-refused}

-- ---- return by return

module _ (settings : Settings) (most : ℕ) (text space : List ℕ) (line : Result Entry Refusal) (e : line ≡ entry_answer most (packet_line text) space) where
  abbrev Entered : PacketText → Bool → Result Entry Refusal
  Entered p t = pick t (Ok (record { at = p.at; direction = p.direction; size = length p.bytes })) (Err OutputTooShort)

  abbrev Answered : PacketText → Bool → Result Packet Refusal
  Answered p t = pick t (read_packet settings (standing most p space)) (Err OutputTooShort)

  pub line-refused : (r : Refusal) → line ≡ Err r → Err r ≡ packet_read settings most (packet_line text) space
  line-refused r u = by (packet_line text) (sym u ∙ e)
    where
      by-room : (p : PacketText) (t : Bool) → Err r ≡ Entered p t → Err r ≡ Answered p t
      by-room p true q = let z : ◌≡◌ {A = ℕ} 0 1 = cc in absurd (omega arith)
      by-room p false q = let m : r ≡ OutputTooShort = cc in rw m

      by : (o : Option PacketText) → Err r ≡ entry_answer most o space → Err r ≡ packet_read settings most o space
      by None q = let m : r ≡ BadLine = cc in rw m
      by (Some p) q = by-room p (fits 0 (take most p.bytes) space) q

  module _ (entry : Entry) (u : line ≡ Ok entry) (space' part : List ℕ) (o : space' ≡ packet_over most (packet_line text) space) (d : part ≡ take (entry.size - 0) (drop 0 space'))
      (a : Result Packet Refusal) (k : a ≡ read_packet settings part) where
    part_by : (x : Option PacketText) → packet_line text ≡ x → Ok entry ≡ entry_answer most x space → a ≡ packet_read settings most x space
    part_by None q w = let z : ◌≡◌ {A = ℕ} 0 1 = cc in absurd (omega arith)
    part_by (Some p) q w = by (fits 0 (take most p.bytes) space) w
      where
        by : (t : Bool) → Ok entry ≡ Entered p t → a ≡ Answered p t
        by true w =
            let n : entry.size ≡ length p.bytes = cc in
            let s : part ≡ standing most p space = d ∙ rw (n, sub-zero (length p.bytes), o, q) in
            k ∙ ap (read_packet settings) s
        by false w = let z : ◌≡◌ {A = ℕ} 0 1 = cc in absurd (omega arith)

    pub line_read_lem : a ≡ packet_read settings most (packet_line text) space
    line_read_lem = part_by (packet_line text) refl (sym u ∙ e)

pub ruleset packet_read_laws = (line-refused, line_read_lem)

-- ---- as many bytes of a space as a packet has, over whose front its first most were laid

module _ (most : ℕ) (p : PacketText) (space : List ℕ) (h : length p.bytes ≤ length space) where
  abbrev front : List ℕ
  front = take most p.bytes

  front-size : length front ≡ min most (length p.bytes)
  front-size = length-take most p.bytes

  front_fits : 0 + length front ≤ length space
  front_fits = omega (arith, h, front-size)

  standing-is : standing most p space ≡ take (length p.bytes) (put 0 front space)
  standing-is = rw (laid-fits 0 front space front_fits)

  standing-length : length (standing most p space) ≡ length p.bytes
  standing-length =
      rw standing-is (length-take (length p.bytes) (put 0 front space)
      ∙ rw (length-put 0 front space front_fits) (omega (arith, h)))

  front-seam : take (length front) (put 0 front space) ≡ front
  unfolding put
  front-seam = take-append_seam front (drop (0 + length front) space)

  -- laid whole, the packet stands there
  standing-all : length p.bytes ≤ most → standing most p space ≡ p.bytes
  standing-all k =
      let f : front ≡ p.bytes = take_all most p.bytes k in
      standing-is ∙ (ap (λ (n : ℕ). take n (put 0 front space)) (ap length (sym f)) ∙ (front-seam ∙ f))

  standing-part : (n : ℕ) → n ≤ most → most ≤ length p.bytes → take n (standing most p space) ≡ take n p.bytes
  standing-part n l k =
      let m : length front ≡ most = omega (arith, front-size, k) in
      let s : take most (put 0 front space) ≡ front = rw m at front-seam in
      ap (take n) standing-is
      ∙ (take-take n (length p.bytes) (put 0 front space) (omega (arith, l, k))
      ∙ (sym (take-take n most (put 0 front space) l)
      ∙ (ap (take n) s ∙ take-take n most p.bytes l)))

  standing-front : (n : ℕ) → n ≤ most → take n (standing most p space) ≡ take n p.bytes
  standing-front n l =
      ⊎_elim (λ (k : length p.bytes < most). ap (take n) (standing-all (omega arith))) (λ (k : most ≤ length p.bytes). standing-part n l k)
      (lt-or-le (length p.bytes) most)

  read_is : (settings : Settings) → packet_read settings most (Some p) space ≡ read_packet settings (standing most p space)
  read_is settings = rw (le-leb (0 + length front) (length space) front_fits)

  -- ---- laid whole, it is read as itself

  pub all_read : (settings : Settings) → length p.bytes ≤ most → packet_read settings most (Some p) space ≡ text_read settings (Some p)
  all_read settings k = read_is settings ∙ ap (read_packet settings) (standing-all k)

  -- ---- from 16 bytes on, what is printed and counted is the same

  module _ (settings : Settings) (l : printed_front ≤ most) where
    packet-output : output_line (packet_read settings most (Some p) space) ≡ output_line (text_read settings (Some p))
    packet-output = ap output_line (read_is settings) ∙ front-output settings p.bytes (standing most p space) standing-length (standing-front printed_front l)

    packet-refused : refused_count (packet_read settings most (Some p) space) ≡ refused_count (text_read settings (Some p))
    packet-refused = ap refused_count (read_is settings) ∙ front-refused settings p.bytes (standing most p space) standing-length (standing-front printed_front l)

module _ (settings : Settings) (most : ℕ) (l : printed_front ≤ most) (text space : List ℕ) (room : length text ≤ 2 * length space) where
  pub front-printed : output_line (packet_read settings most (packet_line text) space) ≡ output_line (text_read settings (packet_line text))
  front-printed = by (packet_line text) refl
    where
      by : (o : Option PacketText) → packet_line text ≡ o → output_line (packet_read settings most o space) ≡ output_line (text_read settings o)
      by None q = refl
      by (Some p) q = packet-output most p space (omega (arith, packet-bytes text p q, room)) settings l

  pub front-counted : refused_count (packet_read settings most (packet_line text) space) ≡ refused_count (text_read settings (packet_line text))
  front-counted = by (packet_line text) refl
    where
      by : (o : Option PacketText) → packet_line text ≡ o → refused_count (packet_read settings most o space) ≡ refused_count (text_read settings o)
      by None q = refl
      by (Some p) q = packet-refused most p space (omega (arith, packet-bytes text p q, room)) settings l
