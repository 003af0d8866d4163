-- What a thin call of a core leaves: number, table, output and store are those of the call. o is the origin as it was made, w as the promise names it.
use Prim.Native.Nat.{ℕ, ◌%◌, ◌^◌}
use mathlib.Core.Path.{◌≡◌, refl, ap, ◌∙◌}
use mathlib.Core.List.{List}
use lib.ListN.{get_or}
use Rattle.reads_rules.specs.declared.origin.Origin.{Origin}
use Rattle.reads_rules.specs.declared.read.Read.{Read}
use Rattle.reads_words.specs.Words.{read_of}
use Rattle.reads_answers.specs.declared.TakeAnswer.{TakeAnswer}
use Rattle.std.specs.Prelude.{Result, Ok, Err}
use Rattle.tlp.specs.declared.refusal.Refusal.{Refusal}
use Rattle.tlp.specs.Refusals.{number_in}
use Rattle.reads.specs.declared.table.Opening.{Opening}
use Rattle.reads.specs.declared.table.Taking.{Taking}
use Rattle.reads.specs.declared.table.Withdrawal.{Withdrawal}
use Rattle.reads.specs.Answers.{open_number, withdraw_number}
use Rattle.reads.specs.Tables.{table_of}
use Rattle.reads.specs.OpenCall.{open_call, open_out}
use Rattle.reads.specs.TakeCall.{take_call, take_store}
use Rattle.reads.specs.OtherCalls.{withdraw_call}
use Rattle.reads.specs.Lent.{opening_of, taking_of, withdrawal_of}
use Rattle.bench_lent.specs.Lent.{origin_in, request_in, done_number}

open_same : (a : Result ℕ Refusal) → number_in a ≡ open_number a
open_same (Ok size) = refl
open_same (Err r) = refl

withdraw_same : (a : Result Unit Refusal) → number_in a ≡ withdraw_number a
withdraw_same (Ok u) = refl
withdraw_same (Err r) = refl

module _ (o w : Origin) (opened words opened' words' : List ℕ) (n : ℕ) (e : o ≡ w) where
  module _ (x : Read) (request : List ℕ) (f : x ≡ read_of (get_or request 0 0) (get_or request 1 0) (get_or request 2 0) (get_or request 3 0)) (tag room : ℕ) where
    asked : x.request ≡ request_in request
    unfolding request_in
    asked = ap (λ (y : Read). y.request) f

    module _ (space : ℕ) (a : Result ℕ Refusal) (g : opening_of o opened' words' a ≡ open_call (table_of o opened words) x.request tag room space) where
      opens : opening_of w opened' words' a ≡ open_call (table_of w opened words) (request_in request) tag room space
      opens = rw (e, asked) at g

      pub open-number : n ≡ number_in a → n ≡ open_number (open_call (table_of w opened words) (request_in request) tag room space).answer
      open-number h = h ∙ open_same a ∙ ap (λ (x : Opening). open_number x.answer) opens

      pub open-table : table_of w opened' words' ≡ (open_call (table_of w opened words) (request_in request) tag room space).table
      open-table = ap (λ (x : Opening). x.table) opens

    pub open-out : (out out' : List ℕ) → out' ≡ open_out (table_of o opened words) x.request tag room out → out' ≡ open_out (table_of w opened words) (request_in request) tag room out
    open-out out out' h = rw (e, asked) at h

  module _ (bytes : List ℕ) where
    module _ (room : ℕ) (a : TakeAnswer) (g : taking_of o opened' words' a ≡ take_call (table_of o opened words) bytes room) where
      takes : taking_of w opened' words' a ≡ take_call (table_of w opened words) bytes room
      takes = rw e at g

      pub take-number : n ≡ done_number a → n ≡ done_number (take_call (table_of w opened words) bytes room).answer
      take-number h = h ∙ ap (λ (x : Taking). done_number x.answer) takes

      pub take-table : table_of w opened' words' ≡ (take_call (table_of w opened words) bytes room).table
      take-table = ap (λ (x : Taking). x.table) takes

    pub take-store : (store store' : List ℕ) → store' ≡ take_store (table_of o opened words) bytes store → store' ≡ take_store (table_of w opened words) bytes store
    take-store store store' h = rw e at h

  module _ (tag : ℕ) (a : Result Unit Refusal) (g : withdrawal_of o opened' words' a ≡ withdraw_call (table_of o opened words) tag) where
    withdraws : withdrawal_of w opened' words' a ≡ withdraw_call (table_of w opened words) tag
    withdraws = rw e at g

    pub withdraw-number : n ≡ number_in a → n ≡ withdraw_number (withdraw_call (table_of w opened words) tag).answer
    withdraw-number h = h ∙ withdraw_same a ∙ ap (λ (x : Withdrawal). withdraw_number x.answer) withdraws

    pub withdraw-table : table_of w opened' words' ≡ (withdraw_call (table_of w opened words) tag).table
    withdraw-table = ap (λ (x : Withdrawal). x.table) withdraws

pub origin-made : (ws : List ℕ) → record { settings = record { mps = get_or ws 0 0; mrrs = get_or ws 1 0; rcb = get_or ws 2 0 }; requester = get_or ws 3 0 % 2 ^ 16 } ≡ origin_in ws
unfolding origin_in
origin-made ws = refl

pub ruleset thin_laws = (origin-made, open-number, open-table, open-out, take-number, take-table, take-store, withdraw-number, withdraw-table)
