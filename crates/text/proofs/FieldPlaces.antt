-- Where the fields of a line stand: each key fits after the index that it is read from, and its value ends within the line.
use Rattle.std.proofs.Common.{◌≡◌, ℕ, ◌+◌, ◌≤◌, List, length, refl, arith, Some}
use Rattle.text.specs.Decimal.{decimal_number}
use Rattle.text.specs.Words.{starts_with}
use Rattle.text.specs.Fields.{decimal_after, key_after}
use Rattle.text.specs.declared.fields.Field.{Field}
use Rattle.text.proofs.WordLaws.{starts-le}
use Rattle.text.proofs.Bounds.{picked, found-bounds, read-is}

module _ (line key : List ℕ) (at : ℕ) where
  pub decimal-placed : (most : ℕ) (f : Field) → decimal_after line at key most ≡ Some f → (at + length key ≤ f.next) × (f.next ≤ length line)
  unfolding decimal_after
  decimal-placed most f e =
      let r = read-is (decimal_number most) line key at f e in
      let b = found-bounds line key at r.0 r.1.0 in
      (omega (arith, b.0, b.1.0, r.1.1.1), omega (arith, b.1.1, r.1.1.1))

  pub key-placed : (next : ℕ) → key_after line at key ≡ Some next → (at + length key ≡ next) × (next ≤ length line)
  unfolding key_after
  key-placed next e =
      let f = picked (starts_with line at key) (Some (at + length key)) next e in
      let n : at + length key ≡ next = cc f.1 in
      (n, rw n at (starts-le line key at (starts_with line at key) refl (rw f.0)))
