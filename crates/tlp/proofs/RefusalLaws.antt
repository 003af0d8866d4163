-- What is answered to the number that rows give.
use Rattle.std.proofs.Common.{◌≡◌, ℕ, zero, suc, refl, sym, ap, ◌∙◌, arith, Result, Ok, Err}
use Rattle.std.proofs.Common.{Bool, true, false, List, [], ◌∷◌, eqb}
use mathlib.Core.Bool.{and-eq-true_iff}
use borrow.Author.Tests.{eqb-true}
use Rattle.bits.specs.Choice.{pick}
use Rattle.tlp.specs.Rows.{Row, first}
use Rattle.tlp.specs.Refusals.{number_in, all_listed, number, refusal, answered}
use Rattle.tlp.specs.declared.refusal.Refusal.{Refusal}
use Rattle.tlp.specs.declared.refusal.Refusal.TheVariants.{HeaderIncomplete, UnknownKind, SizeMismatch, HintOrAddressType, OverMaxPayload, BadField, BadEnables, Crosses4K, BadRouting, Needless64BitForm, BadSetting, OutputTooShort, BadLine}
use Rattle.tlp.specs.declared.refusal.Refusal.TheVariants.{TagOverLimit, TagOpen, OverMaxReadRequest, BadWindow, WindowOverlap, TagNotOpen, NotACompletion, UnexpectedCompletion, ClassOrAttributesDiffer, BadCompletionStatus, NotAContinuation, BadStore}

refusal_of : (r : Refusal) → refusal (number r) ≡ r
unfolding refusal
refusal_of HeaderIncomplete = refl
refusal_of UnknownKind = refl
refusal_of SizeMismatch = refl
refusal_of HintOrAddressType = refl
refusal_of OverMaxPayload = refl
refusal_of BadField = refl
refusal_of BadEnables = refl
refusal_of Crosses4K = refl
refusal_of BadRouting = refl
refusal_of Needless64BitForm = refl
refusal_of BadSetting = refl
refusal_of OutputTooShort = refl
refusal_of BadLine = refl
refusal_of TagOverLimit = refl
refusal_of TagOpen = refl
refusal_of OverMaxReadRequest = refl
refusal_of BadWindow = refl
refusal_of WindowOverlap = refl
refusal_of TagNotOpen = refl
refusal_of NotACompletion = refl
refusal_of UnexpectedCompletion = refl
refusal_of ClassOrAttributesDiffer = refl
refusal_of BadCompletionStatus = refl
refusal_of NotAContinuation = refl
refusal_of BadStore = refl

numbered : (r : Refusal) → 0 ≡ number r → ⊥
numbered HeaderIncomplete e = omega arith
numbered UnknownKind e = omega arith
numbered SizeMismatch e = omega arith
numbered HintOrAddressType e = omega arith
numbered OverMaxPayload e = omega arith
numbered BadField e = omega arith
numbered BadEnables e = omega arith
numbered Crosses4K e = omega arith
numbered BadRouting e = omega arith
numbered Needless64BitForm e = omega arith
numbered BadSetting e = omega arith
numbered OutputTooShort e = omega arith
numbered BadLine e = omega arith
numbered TagOverLimit e = omega arith
numbered TagOpen e = omega arith
numbered OverMaxReadRequest e = omega arith
numbered BadWindow e = omega arith
numbered WindowOverlap e = omega arith
numbered TagNotOpen e = omega arith
numbered NotACompletion e = omega arith
numbered UnexpectedCompletion e = omega arith
numbered ClassOrAttributesDiffer e = omega arith
numbered BadCompletionStatus e = omega arith
numbered NotAContinuation e = omega arith
numbered BadStore e = omega arith

-- the refusal whose number the rows give, and none where they give none
pub refused : {A : Type 0} (r : Refusal) (x : A) (n : ℕ) → number r ≡ n → Err r ≡ answered n x
refused r x n e = by n e
  where
    by : (k : ℕ) → number r ≡ k → Err r ≡ answered k x
    by zero q = absurd (numbered r (sym q))
    by (suc k) q = ap Err (sym (ap refusal (sym q) ∙ refusal_of r))

pub accepted : {A : Type 0} (x y : A) (n : ℕ) → 0 ≡ n → x ≡ y → Ok x ≡ answered n y
accepted x y n e h = rw (← e, h) refl

-- a call's answer handed on, where its rows give the same
pub through : {A : Type 0} (r : Result A Refusal) (x : A) (n m : ℕ) → r ≡ answered n x → n ≡ m → r ≡ answered m x
through r x n m p q = p ∙ ap (λ k. answered k x) q

-- an answer without a number is the value, whatever number gave it
pub accepted-answered : {A : Type 0} (n : ℕ) (x : A) → number_in (answered n x) ≡ 0 → answered n x ≡ Ok x
accepted-answered zero x e = refl
accepted-answered (suc n) x e = absurd (numbered (refusal (suc n)) (sym e))

-- the number of an answer is the one that the rows give, where all of theirs are refusals'
counted : {A : Type 0} (x : A) (n : ℕ) → eqb (number (refusal n)) n ≡ true → number_in (answered n x) ≡ n
counted x zero h = refl
counted x (suc n) h = eqb-true _ _ h

picked : {A : Type 0} (x : A) (b : Bool) (n k : ℕ) → number_in (answered n x) ≡ n → number_in (answered k x) ≡ k → number_in (answered (pick b n k) x) ≡ pick b n k
picked x true n k p q = p
picked x false n k p q = q

pub number-answered : {A : Type 0} (x : A) (rs : List Row) → all_listed rs ≡ true → number_in (answered (first rs) x) ≡ first rs
unfolding first
number-answered x [] h = refl
number-answered x (r ∷ rs) h =
    let b = (and-eq-true_iff (eqb (number (refusal r.number)) r.number) (all_listed rs)).0 h in
    picked x r.holds r.number (first rs) (counted x r.number b.0) (number-answered x rs b.1)
