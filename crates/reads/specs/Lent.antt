-- What open_lent, take_lent and withdraw_lent leave, as the call of the table leaves it: the table from the set and
-- the words that were lent, and the answer. A reader must believe them: the equations of these functions are of such
-- pairs.
use Rattle.std.specs.Prelude.{ℕ, List, Result}
use Rattle.tlp.specs.declared.refusal.Refusal.{Refusal}
use Rattle.reads_rules.specs.declared.origin.Origin.{Origin}
use Rattle.reads_answers.specs.declared.TakeAnswer.{TakeAnswer}
use Rattle.reads.specs.declared.table.Opening.{Opening}
use Rattle.reads.specs.declared.table.Taking.{Taking}
use Rattle.reads.specs.declared.table.Withdrawal.{Withdrawal}
use Rattle.reads.specs.Tables.{table_of}

abbrev pub opening_of : Origin → List ℕ → List ℕ → Result ℕ Refusal → Opening
opening_of o opened words a = record { table = table_of o opened words; answer = a }

abbrev pub taking_of : Origin → List ℕ → List ℕ → TakeAnswer → Taking
taking_of o opened words a = record { table = table_of o opened words; answer = a }

abbrev pub withdrawal_of : Origin → List ℕ → List ℕ → Result Unit Refusal → Withdrawal
withdrawal_of o opened words a = record { table = table_of o opened words; answer = a }
