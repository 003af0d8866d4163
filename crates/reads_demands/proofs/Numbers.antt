-- The number of an answer is the one that its rows give.
use Prim.Native.Nat.{ℕ}
use mathlib.Core.Path.{◌≡◌, refl, sym, ◌∙◌}
use Rattle.std.specs.Prelude.{Result, Ok, Err}
use Rattle.tlp.specs.Rows.{first}
use Rattle.tlp.specs.Refusals.{refusal, answered as result_of, number_in}
use Rattle.tlp.specs.declared.refusal.Refusal.{Refusal}
use Rattle.tlp.proofs.RefusalLaws.{number-answered}
use Rattle.tlp_write.specs.Layout.{size_of}
use Rattle.reads_rules.specs.declared.request.ReadRequest.{ReadRequest}
use Rattle.reads.specs.declared.table.Table.{Table}
use Rattle.reads.specs.Answers.{answer_said, open_number, withdraw_number}
use Rattle.reads.specs.OpenCall.{header_packet, open_rows, open_call}
use Rattle.reads.specs.OtherCalls.{withdraw_rows, withdraw_call}

said-number : {A : Type 0} (v : A → ℕ) (x : Result A Refusal) → (answer_said v x).number ≡ number_in x
said-number v (Ok x) = refl
said-number v (Err r) = refl

pub open-number : (t : Table) (q : ReadRequest) (tag room space : ℕ) → open_number (open_call t q tag room space).answer ≡ first (open_rows t q tag room space)
unfolding open_call refusal
open-number t q tag room space =
    let size = size_of (header_packet t.origin q tag) in
    said-number (λ n. n) (result_of (first (open_rows t q tag room space)) size) ∙ number-answered size (open_rows t q tag room space) refl

-- an accepted open meets none of its rows
pub open-zero : (t : Table) (q : ReadRequest) (tag room space : ℕ) → open_number (open_call t q tag room space).answer ≡ 0 → first (open_rows t q tag room space) ≡ 0
open-zero t q tag room space e = sym (open-number t q tag room space) ∙ e

pub withdraw-number : (t : Table) (tag : ℕ) → withdraw_number (withdraw_call t tag).answer ≡ first (withdraw_rows t tag)
unfolding withdraw_call refusal
withdraw-number t tag = said-number (λ _. 0) (result_of (first (withdraw_rows t tag)) tt) ∙ number-answered tt (withdraw_rows t tag) refl
