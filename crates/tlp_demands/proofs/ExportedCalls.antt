-- The functions for C: the theorems `ExportedDemand1`, `RecordReadThenWrite` and `RecordWriteThenRead`.
use Prim.Native.Nat.{ℕ, zero, suc, ◌<◌}
use mathlib.Core.Path.{◌≡◌, refl, ap, ◌∙◌}
use mathlib.Core.Bool.{Bool, true, false, not}
use mathlib.Core.List.{List, [], ◌∷◌, ◌++◌}
use native.Mathlib.Omega.{arith}
use lib.Dec.{ltb}
use lib.ListN.{length}
use borrow.Author.Tests.{not-false, le-ltb}
use Rattle.bits.specs.Choice.{pick}
use Rattle.bits.specs.Put.{over_front}
use Rattle.bits.proofs.PutLaws.{take-over}
use Rattle.std.specs.Prelude.{Result, Ok, Err}
use Rattle.tlp.specs.Refusals.{refusal, answered, number_in}
use Rattle.tlp.proofs.RefusalLaws.{number-answered}
use Rattle.tlp.specs.declared.refusal.Refusal.TheVariants.{BadField, BadSetting, OutputTooShort}
use Rattle.tlp.specs.declared.refusal.Refusal.{Refusal}
use Rattle.tlp.specs.Rows.{Row, row, first, numbered}
use Rattle.tlp.specs.Settings.{settings_listed}
use Rattle.tlp.specs.declared.settings.Settings.{Settings}
use Rattle.tlp.specs.declared.packet.Packet.{Packet}
use Rattle.tlp.proofs.RowLaws.{some_of, none_of, answered-by}
use Rattle.tlp_read.specs.Read.{read_rows, read_packet, packet_in}
use Rattle.tlp_writable.specs.Given.{given_rows}
use Rattle.tlp_write.specs.Layout.{size_of, bytes_of}
use Rattle.tlp_write.specs.Write.{later_rows, write_packet}
use Rattle.tlp_record.specs.Places.{record_size}
use Rattle.tlp_record.specs.Record.{record_of, record_packet, is_record}
use Rattle.tlp_record.proofs.RecordFacts.{record-back}
use Rattle.tlp_record_read.specs.RecordRead.{read_number, read_record}
use Rattle.tlp_record_write.specs.RecordWrite.{record_answer, record_out}
use Rattle.tlp_c.specs.Calls.{size_written, write_number, written_size}
use Rattle.tlp_demands.specs.ExportedCalls.{exported_write_rows, ExportedReadExactly, ExportedWriteExactly, ExportedDemand1, laid_record, RecordReadThenWrite, RecordWriteThenRead}
use Rattle.tlp_demands.proofs.Demand1.{value-answered, out-unchanged, out_written}
use Rattle.tlp_demands.proofs.ReadRows.{accepted}
use Rattle.tlp_demands.proofs.WriteRead.{bytes_read}
use Rattle.tlp_demands.proofs.ReadWrite.{read-written}
use Rattle.tlp_demands.proofs.PacketRecords.{record-of-read}

-- ---- reading into a record

-- what a record answers that may be too short
abbrev short_answer : Bool → Result Unit Refusal
short_answer b = pick b (Err OutputTooShort) (Ok tt)

short-number : (b : Bool) → number_in (short_answer b) ≡ pick b 12 0
short-number true = refl
short-number false = refl

read_number_lem : (n : ℕ) (p : Packet) (room : ℕ) (rows : List Row) → numbered rows ≡ true → number_in (answered n p) ≡ n → n ≡ first rows
    → read_number (answered n p) room ≡ first (rows ++ (row 12 (ltb room record_size) ∷ []))
unfolding first
read_number_lem zero p room rows k h e = none_of rows (row 12 (ltb room record_size) ∷ []) 0 _ k e refl (short-number (ltb room record_size))
read_number_lem (suc n) p room rows k h e = h ∙ some_of rows (row 12 (ltb room record_size) ∷ []) (suc n) e (λ z. omega arith)

-- the record, where b says whether it is too short
short-unchanged : (b : Bool) (r lent : List ℕ) → 0 < number_in (short_answer b) → pick b lent (over_front r lent) ≡ lent
short-unchanged true r lent h = refl
short-unchanged false r lent h = absurd (omega arith)

long-enough : (b : Bool) → number_in (short_answer b) ≡ 0 → b ≡ false
long-enough true e = absurd (omega arith)
long-enough false e = refl

read-unchanged : (n : ℕ) (p : Packet) (lent : List ℕ) → 0 < read_number (answered n p) (length lent) → read_record (answered n p) lent ≡ lent
read-unchanged zero p lent h = short-unchanged (ltb (length lent) record_size) (record_of p) lent h
read-unchanged (suc n) p lent h = refl

-- what is accepted
read-laid : (n : ℕ) (p : Packet) (lent : List ℕ) → number_in (answered n p) ≡ n → read_number (answered n p) (length lent) ≡ 0
    → (answered n p ≡ Ok p) × (read_record (answered n p) lent ≡ over_front (record_of p) lent)
read-laid zero p lent h e = (refl, rw (long-enough (ltb (length lent) record_size) e))
read-laid (suc n) p lent h e = absurd (omega (arith, h, e))

read-exactly : (settings : Settings) (packet lent : List ℕ) → ExportedReadExactly settings packet lent
unfolding read_packet refusal
read-exactly settings packet lent =
    let rows = read_rows settings packet in
    let counted = number-answered (packet_in packet) rows refl in
    record {
      number = answered-by _ _ refl (read_number_lem (first rows) (packet_in packet) (length lent) rows refl counted refl);
      unchanged = read-unchanged (first rows) (packet_in packet) lent;
      laid = λ e. (read-laid (first rows) (packet_in packet) lent counted e).1;
    }

-- ---- writing from a record

record-number : (a b : Bool) (rest : List Row) (size : ℕ)
    → pick a (Err BadSetting) (pick b (Err BadField) (answered (first (row 11 a ∷ rest)) size)) ≡ answered (first (row 11 a ∷ row 6 b ∷ rest)) size
unfolding first refusal
record-number true b rest size = refl
record-number false true rest size = refl
record-number false false rest size = refl

module _ (settings : Settings) (fields : List ℕ) (n room : ℕ) where
  abbrev rows : List Row
  rows = exported_write_rows settings fields n room

  -- the answer is the writer's, by the longer list
  by-list : record_answer settings fields n room ≡ answered (first rows) (size_of (record_packet fields))
  unfolding record_answer write_packet
  by-list =
      record-number (not (settings_listed settings)) (not (is_record fields))
      (given_rows (record_packet fields) ++ later_rows settings (record_packet fields) n room) (size_of (record_packet fields))

  accepted-answer : write_number settings fields n room ≡ 0 → record_answer settings fields n room ≡ Ok (size_of (record_packet fields))
  unfolding write_number refusal
  accepted-answer e = by-list ∙ value-answered (size_of (record_packet fields)) rows refl (rw by-list at e)

-- what an accepted answer says
parts : (a b : Bool) (x : Result ℕ Refusal) (size : ℕ) → pick a (Err BadSetting) (pick b (Err BadField) x) ≡ Ok size → (b ≡ false) × (x ≡ Ok size)
parts true b x size e = (cc, cc)
parts false true x size e = (cc, cc)
parts false false x size e = (refl, e)

-- a packet that is written from a record
module _ (settings : Settings) (fields payload out : List ℕ) (e : write_number settings fields (length payload) (length out) ≡ 0) where
  as_record : is_record fields ≡ true
  unfolding record_answer
  as_record = not-false (is_record fields) (parts (not (settings_listed settings)) (not (is_record fields)) _ _ (accepted-answer settings fields (length payload) (length out) e)).0

  is-written : write_packet settings (record_packet fields) (length payload) (length out) ≡ Ok (size_of (record_packet fields))
  unfolding record_answer
  is-written = (parts (not (settings_listed settings)) (not (is_record fields)) _ _ (accepted-answer settings fields (length payload) (length out) e)).1

  bytes-size : size_of (record_packet fields) ≡ length (bytes_of (record_packet fields) payload)
  bytes-size = (bytes_read settings (record_packet fields) payload (length out) (size_of (record_packet fields)) is-written).1.1

size-unchanged : (n size old : ℕ) → 0 < number_in (answered n size) → size_written (answered n size) old ≡ old
size-unchanged zero size old h = absurd (omega arith)
size-unchanged (suc n) size old h = refl

write-exactly : (settings : Settings) (fields payload out : List ℕ) (size : ℕ) → ExportedWriteExactly settings fields payload out size
unfolding write_number written_size record_out refusal
write-exactly settings fields payload out size =
    let p = record_packet fields in
    let rows = exported_write_rows settings fields (length payload) (length out) in
    let e = by-list settings fields (length payload) (length out) in
    record {
      number = answered-by rows _ refl (ap number_in e ∙ number-answered (size_of p) rows refl);
      unchanged = rw e (λ h. (out-unchanged (first rows) (size_of p) (bytes_of p payload) out h, size-unchanged (first rows) (size_of p) size h));
      written = λ z. (rw e (out_written (first rows) (size_of p) (bytes_of p payload) out (value-answered (size_of p) rows refl (rw e at z))), rw (accepted-answer settings fields (length payload) (length out) z) (bytes-size settings fields payload out z));
    }

pub exported-demand1 : ExportedDemand1
exported-demand1 = record { reads = read-exactly; writes = write-exactly }

-- ---- the trips

-- a record that was laid is there
record-laid : (p : Packet) (lent : List ℕ) → laid_record (over_front (record_of p) lent) ≡ record_of p
unfolding record_of
record-laid p lent = take-over (record_of p) lent record_size refl

pub record-read-then-write : RecordReadThenWrite
unfolding read_packet write_number written_size record_out record_answer refusal
record-read-then-write settings packet lent out size small e room =
    let p = packet_in packet in
    let rows = read_rows settings packet in
    let l = read-laid (first rows) p lent (number-answered p rows refl) e in
    let t = read-written settings packet p (length out) small l.0 room in
    let r = record-of-read settings packet p small l.0 in
    let listed = (accepted settings packet p l.0).0.settings in
    rw (l.1, record-laid p lent, listed, r.as_record, r.packet, t.0, t.1) (refl, (refl, refl))

pub record-write-then-read : RecordWriteThenRead
unfolding written_size record_out
record-write-then-read settings fields payload out lent size e room =
    let p = record_packet fields in
    let t = bytes_read settings p payload (length out) (size_of p) (is-written settings fields payload out e) in
    let same : packet_in (bytes_of p payload) ≡ p = (accepted settings (bytes_of p payload) p t.0).1 in
    let back = record-back fields (as_record settings fields payload out e) in
    let answer = accepted-answer settings fields (length payload) (length out) e in
    rw (answer, take-over (bytes_of p payload) out (size_of p) t.1.1, t.0, le-ltb (length lent) record_size room, same, back) (refl, (refl, t.1.0))
