-- The bytes of a window while the pieces of its read are written into it, one after another.
use Prim.Native.Nat.{ℕ, ◌+◌, ◌-◌, ◌*◌, ◌≤◌, ◌<◌}
use mathlib.Core.Path.{◌≡◌, ◌∙◌}
use mathlib.Core.Logic.{◌⊎◌, inl, inr}
use mathlib.Core.Bool.{true, false, ◌&&◌}
use mathlib.Core.List.{List, [], ◌∷◌, ◌++◌, append-nil, append_assoc}
use native.Mathlib.Omega.{arith}
use lib.Dec.{ltb}
use lib.ListN.{length, get_or, get_or-append}
use lib.Seq.{get_or-append-add}
use borrow.Author.Tests.{ltb-true, ltb-false}
use Rattle.bits.specs.Choice.{pick}
use Rattle.byte_enables.specs.Enables.{enabled}
use Rattle.reads_rules.specs.declared.request.ReadRequest.{ReadRequest}
use Rattle.reads_rules.specs.Windows.{window_end}
use Rattle.reads_store.specs.Stores.{part_at, stored}
use Rattle.reads_store.proofs.StoreLaws.{stored-before, stored-in, stored-after}
use Rattle.tlp_read.specs.Read.{payload_in}
use Rattle.cuttings.specs.Lawful.{payloads_joined}
use Rattle.reads_demands.proofs.Tests.{true-or-false}

pub payloads-end : (bs : List (List ℕ)) (b : List ℕ)
    → payloads_joined (bs ++ (b ∷ [])) ≡ payloads_joined bs ++ payload_in b
unfolding payloads_joined
payloads-end [] b = append-nil (payload_in b)
payloads-end (x ∷ bs) b = rw (payloads-end bs b, append_assoc (payload_in x) (payloads_joined bs) (payload_in b))

-- byte k of the window when the first p doublewords, whose bytes are laid, came over what the store held at opening
abbrev pub window_byte : ReadRequest → ℕ → List ℕ → List ℕ → ℕ → ℕ
window_byte q p laid opened k = pick (ltb k (4 * p) && enabled q.access k) (get_or laid k 0) (get_or opened (q.start + k) 0)

module _ (q : ReadRequest) (p n : ℕ) (laid payload store opened : List ℕ) (was : length laid ≡ 4 * p) (size : length payload ≡ 4 * n)
    (fits : p + n ≤ q.access.length) (room : window_end q ≤ length store) where
  -- one piece more
  pub piece_bytes : (k : ℕ) → k < 4 * q.access.length → get_or store (q.start + k) 0 ≡ window_byte q p laid opened k
      → get_or (stored q p payload store) (q.start + k) 0 ≡ window_byte q (p + n) (laid ++ payload) opened k
  piece_bytes k h old = go (true-or-false (ltb k (4 * p))) (true-or-false (ltb k (4 * (p + n))))
    where
      go : (ltb k (4 * p) ≡ true) ⊎ (ltb k (4 * p) ≡ false) → (ltb k (4 * (p + n)) ≡ true) ⊎ (ltb k (4 * (p + n)) ≡ false)
          → get_or (stored q p payload store) (q.start + k) 0 ≡ window_byte q (p + n) (laid ++ payload) opened k
      go (inl x) (inl y) =
          let l : k < 4 * p = ltb-true _ _ x in
          rw (y, get_or-append laid payload 0 k (omega arith)) (stored-before q p payload store (q.start + k) (omega arith) (omega arith) ∙ (rw x at old))
      go (inl x) (inr y) =
          let l : k < 4 * p = ltb-true _ _ x in
          let m : 4 * (p + n) ≤ k = ltb-false _ _ y in
          absurd (omega arith)
      go (inr x) (inl y) =
          let l : 4 * p ≤ k = ltb-false _ _ x in
          let m : k < 4 * (p + n) = ltb-true _ _ y in
          let ek : 4 * p + (k - 4 * p) ≡ k = omega arith in
          let ea : part_at q p + (k - 4 * p) ≡ q.start + k = omega arith in
          let w = stored-in q p payload store (k - 4 * p) (omega arith) (omega arith) in
          let g : get_or (laid ++ payload) k 0 ≡ get_or payload (k - 4 * p) 0 = rw (was, ek) at (get_or-append-add laid payload (k - 4 * p) 0) in
          let o : get_or store (q.start + k) 0 ≡ get_or opened (q.start + k) 0 = rw x at old in
          rw (y, g) ((rw (ea, ek) at w) ∙ rw o)
      go (inr x) (inr y) =
          let m : 4 * (p + n) ≤ k = ltb-false _ _ y in
          let ea : part_at q p + (k - 4 * p) ≡ q.start + k = omega arith in
          let o : get_or store (q.start + k) 0 ≡ get_or opened (q.start + k) 0 = rw x at old in
          rw y ((rw ea at (stored-after q p payload store (k - 4 * p) (omega arith) (omega arith))) ∙ o)
