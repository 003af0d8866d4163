-- What holds of every packet record: the facts of specs/RecordFacts.antt.
use Prim.Native.Nat.{ℕ, ◌≤◌}
use mathlib.Core.Path.{◌≡◌, sym, ap}
use mathlib.Core.List.{List}
use native.Mathlib.Omega.{arith}
use lib.ListN.{length}
use Rattle.bits.specs.Word.{byte}
use Rattle.bits.proofs.SameLaws.{same-yes}
use Rattle.tlp.specs.declared.packet.Kind.{Kind}
use Rattle.tlp.specs.declared.packet.Kind.TheVariants.{MemoryRead, MemoryWrite, IoRead, IoWrite, ConfigRead0, ConfigWrite0, ConfigRead1, ConfigWrite1, Message, MessageData, Completion, CompletionData}
use Rattle.tlp_record.specs.Record.{fields_of, record_of, record_packet, is_record}
use Rattle.tlp_record.specs.RecordFacts.{RecordBack, RecordLength, RecordKind}

pub record-back : RecordBack
unfolding is_record
record-back fields e = same-yes (record_of (record_packet fields)) fields e

pub record-length : RecordLength
unfolding record_of
record-length fields e = sym (ap length (record-back fields e))

kind-number : (k : Kind) → (1 ≤ (fields_of k).kind) × ((fields_of k).kind ≤ 12)
kind-number (MemoryRead q) = (omega arith, omega arith)
kind-number (MemoryWrite q) = (omega arith, omega arith)
kind-number (IoRead q) = (omega arith, omega arith)
kind-number (IoWrite q) = (omega arith, omega arith)
kind-number (ConfigRead0 q) = (omega arith, omega arith)
kind-number (ConfigWrite0 q) = (omega arith, omega arith)
kind-number (ConfigRead1 q) = (omega arith, omega arith)
kind-number (ConfigWrite1 q) = (omega arith, omega arith)
kind-number (Message m) = (omega arith, omega arith)
kind-number (MessageData m n) = (omega arith, omega arith)
kind-number (Completion c) = (omega arith, omega arith)
kind-number (CompletionData c n) = (omega arith, omega arith)

pub record-kind : RecordKind
unfolding record_of
record-kind fields e =
    let n : byte fields 0 ≡ (fields_of (record_packet fields).kind).kind = sym (ap (λ (l : List ℕ). byte l 0) (record-back fields e)) in
    rw n (kind-number (record_packet fields).kind)
