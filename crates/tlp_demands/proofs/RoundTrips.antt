-- The trips over the output that a caller holds: the theorems `WriteThenRead`, `ReadThenWrite` and `ReservedZero`.
use Prim.Native.Nat.{ℕ}
use mathlib.Core.Path.{◌≡◌, sym, ap, ◌∙◌}
use mathlib.Core.List.{List}
use native.Mathlib.Nat.{le_refl}
use lib.ListN.{length, take}
use Rattle.bits.proofs.PutLaws.{take-over}
use Rattle.std.specs.Prelude.{Ok}
use Rattle.tlp.specs.declared.settings.Settings.{Settings}
use Rattle.tlp.specs.declared.packet.Packet.{Packet}
use Rattle.tlp_write.specs.Layout.{bytes_of}
use Rattle.tlp_write.specs.Write.{write_packet, write_out}
use Rattle.tlp_demands.specs.RoundTrips.{WriteThenRead, ReadThenWrite, ReservedZero}
use Rattle.tlp_demands.proofs.WriteRead.{written_none, bytes_read}
use Rattle.tlp_demands.proofs.ReadWrite.{read-written}
use Rattle.tlp_demands.proofs.WrittenBytes.{written_small}

module _ (settings : Settings) (p : Packet) (payload out : List ℕ) (size : ℕ) (e : write_packet settings p (length payload) (length out) ≡ Ok size) where
  front-written : take size (write_out settings p payload out) ≡ bytes_of p payload
  unfolding write_out
  front-written = rw e (take-over (bytes_of p payload) out size (bytes_read settings p payload (length out) size e).1.1)

pub write-then-read : WriteThenRead
write-then-read settings p payload out size e =
    let t = bytes_read settings p payload (length out) size e in
    rw (front-written settings p payload out size e) (t.0, t.1.0)

pub read-then-write : ReadThenWrite
unfolding write_out
read-then-write settings packet p out small e room =
    let t = read-written settings packet p (length out) small e room in
    (t.0, rw (t.0, t.1))

pub reserved-zero : ReservedZero
reserved-zero settings p payload out size small e =
    let s = bytes_of p payload in
    let (listed, (common, (own, _))) = (written_none settings p (length payload) (length out) size e).0 in
    let t = bytes_read settings p payload (length out) size e in
    let r = read-written settings s p (length s) (written_small p payload own small) t.0 (le_refl (length s)) in
    rw (front-written settings p payload out size e) (sym r.1 ∙ ap (bytes_of p) t.1.0)
