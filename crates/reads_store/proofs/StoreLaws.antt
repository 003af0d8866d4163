-- A store with a payload written into it: its length, and its bytes before, in and after the part that was written.
use Prim.Native.Nat.{ℕ, ◌+◌, ◌*◌, ◌≤◌, ◌<◌}
use mathlib.Core.Path.{◌≡◌, ◌∙◌}
use mathlib.Core.List.{List}
use native.Mathlib.Omega.{arith}
use lib.ListN.{length, get_or, take, drop, length-append, length-take, length-drop, get_or-append}
use lib.Seq.{length-take-le, get_or-append-add, get_or-take, get_or-drop}
use Rattle.bits.specs.Choice.{pick}
use Rattle.byte_enables.specs.Enables.{enabled}
use Rattle.scans.specs.Merges.{merged}
use Rattle.scans.proofs.MergeLaws.{length_merged, merged-in, merged-out}
use Rattle.reads_rules.specs.declared.request.ReadRequest.{ReadRequest}
use Rattle.reads_store.specs.Stores.{part_at, stored}

module _ (q : ReadRequest) (p : ℕ) (payload store : List ℕ) where
  pub length-stored : length (stored q p payload store) ≡ length store
  unfolding stored
  length-stored = rw (length-append, length_merged) (simp (length-take, length-drop) (omega arith))

  pub stored-before : (i : ℕ) → i < part_at q p → i < length store → get_or (stored q p payload store) i 0 ≡ get_or store i 0
  unfolding stored
  stored-before i h l =
      get_or-append (take (part_at q p) store) (merged (enabled q.access) (4 * p) payload (drop (part_at q p) store)) 0 i (simp length-take (omega arith))
      ∙ get_or-take (part_at q p) store i 0 h

  -- byte j from the part's start on
  stored-from : (j : ℕ) → part_at q p ≤ length store
      → get_or (stored q p payload store) (part_at q p + j) 0 ≡ get_or (merged (enabled q.access) (4 * p) payload (drop (part_at q p) store)) j 0
  unfolding stored
  stored-from j l =
      let e : length (take (part_at q p) store) ≡ part_at q p = length-take-le (part_at q p) store l in
      rw e at (get_or-append-add (take (part_at q p) store) (merged (enabled q.access) (4 * p) payload (drop (part_at q p) store)) j 0)

  pub stored-in : (j : ℕ) → j < length payload → part_at q p + j < length store
      → get_or (stored q p payload store) (part_at q p + j) 0 ≡ pick (enabled q.access (4 * p + j)) (get_or payload j 0) (get_or store (part_at q p + j) 0)
  stored-in j h l =
      stored-from j (omega arith)
      ∙ (rw (get_or-drop (part_at q p) store j 0) at (merged-in (enabled q.access) (4 * p) payload (drop (part_at q p) store) j h (simp length-drop (omega arith))))

  pub stored-after : (j : ℕ) → length payload ≤ j → part_at q p ≤ length store → get_or (stored q p payload store) (part_at q p + j) 0 ≡ get_or store (part_at q p + j) 0
  stored-after j h l =
      stored-from j l ∙ (merged-out (enabled q.access) (4 * p) payload (drop (part_at q p) store) j h ∙ get_or-drop (part_at q p) store j 0)
