-- Demand 2's last sentence.
use Prim.Native.Nat.{ℕ}
use mathlib.Core.Path.{◌≡◌, ◌∙◌}
use mathlib.Core.Logic.{◌⊎◌, inl, inr}
use mathlib.Core.Bool.{Bool, true, false}
use mathlib.Core.List.{List}
use lib.Dec.{eqb}
use borrow.Author.Tests.{eq-eqb}
use Rattle.bits.specs.Choice.{pick}
use Rattle.reads_rules.specs.declared.read.Read.{Read}
use Rattle.reads_rules.specs.Validity.{owed_of}
use Rattle.reads_rules.specs.Pieces.{piece_in}
use Rattle.reads.specs.declared.table.Table.{Table}
use Rattle.reads_answers.specs.declared.TakeAnswer.{TakeAnswer}
use Rattle.reads_answers.specs.declared.TakeAnswer.TheVariants.{More, Done}
use Rattle.reads.specs.TakeCall.{take_call}
use Rattle.reads_demands.specs.Demand2.{Continues, TakenExactly}
use Rattle.reads_demands.proofs.OneTake.{meets, continues, done-last}

more-or-done : (a : Bool) (x : TakeAnswer) → x ≡ pick a Done More → (x ≡ More) ⊎ (x ≡ Done)
more-or-done true x e = inr e
more-or-done false x e = inl e

module _ (t : Table) (b : List ℕ) (room : ℕ) where
  some_read : ((take_call t b room).answer ≡ More) ⊎ ((take_call t b room).answer ≡ Done) → (r : Read) × Continues t b room r
  some_read e = let m = meets t b room e in (m.read, m.continues)

  is-done : (take_call t b room).answer ≡ Done → (r : Read) × (Continues t b room r × ((piece_in b).length ≡ owed_of r))
  is-done e =
      let m = meets t b room (inr e) in
      (m.read, (m.continues, done-last t b room m e))

pub taken-exactly : TakenExactly
taken-exactly t b room v = record {
  taken =
      (some_read t b room, λ k. more-or-done (eqb (piece_in b).length (owed_of k.0)) _ (continues t b room k.0 v k.1));
  done = (is-done t b room, λ k. continues t b room k.0 v k.1.0 ∙ rw (eq-eqb _ _ k.1.1));
}
