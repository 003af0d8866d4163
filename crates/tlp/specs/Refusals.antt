-- The refusals of document 01 and their numbers, those of its lists: numbers.txt has the sentence of each. All to be
-- believed; `all_listed` alone serves laws.
use Rattle.std.specs.Prelude.{ℕ, zero, suc, Bool, true, ◌&&◌, List, [], ◌∷◌, eqb, Result, Ok, Err}
use Rattle.bits.specs.Choice.{pick}
use Rattle.tlp.specs.Rows.{Row}
use Rattle.tlp.specs.declared.refusal.Refusal.{Refusal}
use Rattle.tlp.specs.declared.refusal.Refusal.TheVariants.{HeaderIncomplete, UnknownKind, SizeMismatch, HintOrAddressType, OverMaxPayload, BadField, BadEnables, Crosses4K, BadRouting, Needless64BitForm, BadSetting, OutputTooShort, BadLine}
use Rattle.tlp.specs.declared.refusal.Refusal.TheVariants.{TagOverLimit, TagOpen, OverMaxReadRequest, BadWindow, WindowOverlap, TagNotOpen, NotACompletion, UnexpectedCompletion, ClassOrAttributesDiffer, BadCompletionStatus, NotAContinuation, BadStore}

abbrev pub number : Refusal → ℕ
number HeaderIncomplete = 1
number UnknownKind = 2
number SizeMismatch = 3
number HintOrAddressType = 4
number OverMaxPayload = 5
number BadField = 6
number BadEnables = 7
number Crosses4K = 8
number BadRouting = 9
number Needless64BitForm = 10
number BadSetting = 11
number OutputTooShort = 12
number BadLine = 13
number TagOverLimit = 20
number TagOpen = 21
number OverMaxReadRequest = 22
number BadWindow = 23
number WindowOverlap = 24
number TagNotOpen = 25
number NotACompletion = 29
number UnexpectedCompletion = 30
number ClassOrAttributesDiffer = 31
number BadCompletionStatus = 32
number NotAContinuation = 33
number BadStore = 34

-- the refusal that has a number; a number that none has, which no row gives, stands for the last
unfoldable pub refusal : ℕ → Refusal
refusal n =
    pick (eqb n 1) HeaderIncomplete
    (pick (eqb n 2) UnknownKind
    (pick (eqb n 3) SizeMismatch
    (pick (eqb n 4) HintOrAddressType
    (pick (eqb n 5) OverMaxPayload
    (pick (eqb n 6) BadField
    (pick (eqb n 7) BadEnables
    (pick (eqb n 8) Crosses4K
    (pick (eqb n 9) BadRouting
    (pick (eqb n 10) Needless64BitForm
    (pick (eqb n 11) BadSetting
    (pick (eqb n 12) OutputTooShort
    (pick (eqb n 13) BadLine
    (pick (eqb n 20) TagOverLimit
    (pick (eqb n 21) TagOpen
    (pick (eqb n 22) OverMaxReadRequest
    (pick (eqb n 23) BadWindow
    (pick (eqb n 24) WindowOverlap
    (pick (eqb n 25) TagNotOpen
    (pick (eqb n 29) NotACompletion
    (pick (eqb n 30) UnexpectedCompletion
    (pick (eqb n 31) ClassOrAttributesDiffer
    (pick (eqb n 32) BadCompletionStatus
    (pick (eqb n 33) NotAContinuation
    BadStore)))))))))))))))))))))))

-- what a call answers to the number that its rows give: 0 is "accepted", and then it has a value
abbrev pub answered : {A : Type 0} → ℕ → A → Result A Refusal
answered zero x = Ok x
answered (suc n) x = Err (refusal (suc n))

-- the same of a call that only looks
abbrev pub checked : ℕ → Result Unit Refusal
checked n = answered n tt

-- the number of an answer; 0 for accepted
abbrev pub number_in : {A : Type 0} → Result A Refusal → ℕ
number_in (Ok x) = 0
number_in (Err r) = number r

-- whether all numbers of a table of rows are refusals'
abbrev pub all_listed : List Row → Bool
all_listed [] = true
all_listed (r ∷ rs) = eqb (number (refusal r.number)) r.number && all_listed rs
