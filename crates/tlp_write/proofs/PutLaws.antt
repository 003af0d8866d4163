-- Laws of a digest laid over the output, where there is one.
use Prim.Native.Nat.{ℕ, ◌+◌, ◌≤◌}
use mathlib.Core.Bool.{Bool, true, false}
use mathlib.Core.Path.{◌≡◌}
use mathlib.Core.List.{List, []}
use lib.ListN.{length}
use Rattle.bits.specs.Choice.{pick}
use Rattle.bits.specs.Word.{bytes}
use Rattle.bits.specs.Put.{put}
use Rattle.bits.proofs.PutLaws.{put-nothing}

module _ (b : Bool) (d at : ℕ) (v out : List ℕ) (k : v ≡ bytes 4 d) where
  pub digest-room : b ≡ true → at + length (pick b (bytes 4 d) []) ≤ length out → at + length v ≤ length out
  digest-room h l = rw k (rw h at l)

  pub digest-put : (o : List ℕ) → b ≡ true → o ≡ put at v out → o ≡ put at (pick b (bytes 4 d) []) out
  digest-put o h e = rw (h, ← k) e

pub digest-none : (b : Bool) (d at : ℕ) (out : List ℕ) → b ≡ false → out ≡ put at (pick b (bytes 4 d) []) out
digest-none b d at out h = rw h (put-nothing at out)
