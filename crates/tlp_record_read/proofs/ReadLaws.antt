-- One law for each return of reading into a record, for the number and for the record.
use Prim.Native.Nat.{ℕ, zero, suc, ◌-◌, ◌*◌, ◌≤◌, ◌<◌}
use native.Mathlib.Omega.{arith}
use lib.Dec.{eqb, ltb}
use mathlib.Core.Path.{◌≡◌, refl, ap}
use mathlib.Core.Logic.{⊎_elim}
use native.Mathlib.Nat.{eq-zero-or-pos}
use mathlib.Core.Bool.{Bool, true, false, ◌&&◌}
use mathlib.Core.List.{List, [], ◌++◌, append-nil}
use lib.ListN.{length, take, drop, drop_of_length-le, length-take}
use borrow.Author.Tests.{lt-ltb, le-ltb, ltb-false, eqb-true, eqb-false}
use Rattle.tlp.specs.declared.settings.Settings.{Settings}
use Rattle.tlp.specs.declared.packet.Packet.{Packet}
use Rattle.tlp.specs.declared.packet_type.Family.{Family}
use Rattle.tlp.specs.Rows.{first, NoneHold}
use Rattle.tlp.specs.PacketTypes.{type_at, header_dw, family_of, is_unlisted}
use Rattle.tlp.proofs.RowLaws.{first-none}
use Rattle.tlp.proofs.FmtLaws.{fmt-law}
use Rattle.bits.specs.Word.{byte}
use Rattle.tlp_read.specs.Fields.{packet_at}
use Rattle.tlp_read.specs.Read.{read_rows, read_packet}
use Rattle.tlp.specs.Refusals.{answered, checked}
use Rattle.tlp.specs.declared.refusal.Refusal.{Refusal}
use Rattle.tlp.specs.declared.refusal.Refusal.TheVariants.{OutputTooShort}
use Rattle.std.specs.Prelude.{Ok, Err}
use Rattle.bits.specs.Put.{over_front}
use Rattle.tlp_record.specs.Record.{record_of}
use Rattle.tlp_record_read.specs.RecordRead.{read_answer, read_record}

-- a header that is there: 12 bytes, and 16 for one of four doublewords
whole-header : (h n : ℕ) → h ≤ 4 → 12 ≤ n → eqb h 4 && ltb n 16 ≡ false → 4 * h ≤ n
whole-header h n l m e = by (eqb h 4) refl e
  where
    by : (c : Bool) → eqb h 4 ≡ c → c && ltb n 16 ≡ false → 4 * h ≤ n
    by true q k = let x = eqb-true h 4 q in let y = ltb-false n 16 k in omega (arith, x, y)
    by false q k = ⊎_elim (λ z. absurd (eqb-false h 4 q (omega (arith, l, z)))) (λ z. omega (arith, z, m)) (eq-zero-or-pos (4 - h))

ok_number : (n : ℕ) → Ok tt ≡ checked n → n ≡ 0
ok_number zero e = refl
ok_number (suc n) e = absurd (cc)

err_answer : {A : Type 0} (r : Refusal) (x : A) (n : ℕ) → Err r ≡ checked n → Err r ≡ answered n x
err_answer r x zero e = absurd (cc)
err_answer r x (suc n) e = ap Err (cc)

record-length : (p : Packet) → length (record_of p) ≡ 48
unfolding record_of
record-length p = refl

module _ (settings : Settings) (packet : List ℕ) (r : Refusal) (e : Err r ≡ checked (first (read_rows settings packet))) where
  refused : Err r ≡ read_packet settings packet
  unfolding read_packet
  refused = err_answer r _ (first (read_rows settings packet)) e

  pub read-refused-answer : (room : ℕ) → Err r ≡ read_answer (read_packet settings packet) room
  read-refused-answer room = rw (← refused)

  pub read-refused-record : (out : List ℕ) → out ≡ read_record (read_packet settings packet) out
  read-refused-record out = rw (← refused)

module _ (settings : Settings) (packet : List ℕ) (e : Ok tt ≡ checked (first (read_rows settings packet))) where
  clear : first (read_rows settings packet) ≡ 0
  clear = ok_number (first (read_rows settings packet)) e

  accepted : read_packet settings packet ≡ Ok (packet_at (type_at (byte packet 0)) packet)
  unfolding read_packet
  accepted = rw clear

  pub read-short-answer : (room : ℕ) → room < 48 → Err OutputTooShort ≡ read_answer (read_packet settings packet) room
  read-short-answer room l = rw (accepted, lt-ltb room 48 l)

  pub read-laid-answer : (room : ℕ) → 48 ≤ room → Ok tt ≡ read_answer (read_packet settings packet) room
  read-laid-answer room l = rw (accepted, le-ltb room 48 l)

  -- what is laid over the first 48 bytes is laid over the front of all
  pub read-laid-record : (out front last : List ℕ) → 48 ≤ length out → front ≡ take 48 out
      → last ≡ over_front (record_of (packet_at (type_at (byte packet 0)) packet)) front → last ++ drop 48 out ≡ read_record (read_packet settings packet) out
  read-laid-record out front last l k q =
      let p = packet_at (type_at (byte packet 0)) packet in
      let n : drop (length (record_of p)) front ≡ [] = drop_of_length-le front (omega (arith, ap length k, length-take 48 out, record-length p, l)) in
      rw (accepted, le-ltb (length out) 48 l) (rw (q, n, append-nil, record-length p))

  rows-clear : NoneHold (read_rows settings packet)
  rows-clear = first-none (read_rows settings packet) refl clear

  module _ (b : ℕ) (f : Family) (eb : b ≡ byte packet 0) (ef : is_unlisted (family_of (type_at b)) ≡ false → f ≡ family_of (type_at b)) where
    pub read-family : f ≡ family_of (type_at (byte packet 0))
    read-family = rw eb at ef rows-clear.1.1.0

  pub read-room : 4 * header_dw (type_at (byte packet 0)) ≤ length packet
  read-room =
      let l = ltb-false (length packet) 12 rows-clear.1.0 in
      let k = (fmt-law (byte packet 0) rows-clear.1.1.0).0 in
      whole-header (header_dw (type_at (byte packet 0))) (length packet) (omega (arith, k)) l rows-clear.1.1.1.0
