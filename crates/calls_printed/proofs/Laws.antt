-- What the loops ask of lists and numbers, and the table that a call hands back.
use Rattle.std.proofs.Common.{◌≡◌, ℕ, ◌+◌, ◌*◌, ◌%◌, ◌^◌, ◌<◌, ◌≤◌, List, length, get_or, drop, ap, add-one, drop_of_length-le, drop-cons}
use lib.Bits.{bit_xor}
use Rattle.reads.specs.declared.table.Making.{Making}
use Rattle.reads.specs.declared.table.Opening.{Opening}
use Rattle.reads.specs.declared.table.Taking.{Taking}
use Rattle.reads.specs.declared.table.Withdrawal.{Withdrawal}
use Rattle.calls_printed.specs.Checksum.{checksum_from}

-- ---- a checksum up to index i

module _ (i h x : ℕ) (bytes : List ℕ) (e : checksum_from h (drop i bytes) ≡ x) where
  pub checksum-next : i < length bytes → checksum_from (bit_xor h (get_or bytes i 0) * 1099511628211 % 2 ^ 64) (drop (i + 1) bytes) ≡ x
  unfolding checksum_from
  checksum-next l = rw (add-one i) (rw (drop-cons bytes i 0 l) at e)

  pub checksum-done : length bytes ≤ i → h ≡ x
  unfolding checksum_from
  checksum-done l = rw (drop_of_length-le bytes l) at e

-- ---- the table that a call hands back

pub made_table : (a b : Making) → a ≡ b → a.table ≡ b.table
made_table a b e = ap (λ (x : Making). x.table) e

pub opened-table : (a b : Opening) → a ≡ b → a.table ≡ b.table
opened-table a b e = ap (λ (x : Opening). x.table) e

pub taken-table : (a b : Taking) → a ≡ b → a.table ≡ b.table
taken-table a b e = ap (λ (x : Taking). x.table) e

pub withdrawn-table : (a b : Withdrawal) → a ≡ b → a.table ≡ b.table
withdrawn-table a b e = ap (λ (x : Withdrawal). x.table) e

pub ruleset handed-back = (made_table, opened-table, taken-table, withdrawn-table)
