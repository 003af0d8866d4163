-- The stage after a turn and its text, return by return, and the stages that the program comes to.
use Prim.Native.Nat.{ℕ, zero, suc, ◌+◌, ◌-◌, ◌≤◌}
use mathlib.Core.Path.{◌≡◌, refl, sym, ap, ◌∙◌}
use mathlib.Core.Bool.{Bool, true, false, false≢true}
use mathlib.Core.Logic.{◌⊎◌, inl, inr}
use mathlib.Core.List.{List, [], ◌∷◌, ◌++◌}
use native.Mathlib.Nat.{sub-zero}
use native.Mathlib.Omega.{arith}
use Rattle.std.specs.Prelude.{Option, Some, None}
use lib.ListN.{length, take, drop, length-take, length-drop}
use lib.Seq.{take-add, take_at, length-take-le}
use borrow.Rule.Slice.PartMut.{post_of, put_mid}
use Rattle.bits.specs.Choice.{pick}
use Rattle.text.specs.Words.{part}
use Rattle.capture_blocks.specs.declared.Progress.{Progress}
use Rattle.decode.specs.Turns.{first_run, ended_run, stopped_run, after_step, kept_bytes, step_text, end_text, Stage, stage_in, first_stage, ended_stage, stopped_stage, next_stage, next_text, stage_after}
use Rattle.decode.specs.Turns.{block_in, by_read, turn_stage, turn_text, Reached, Prints}
use Rattle.decode.specs.Turns.{reading, done, stopped, turn, end}
use Rattle.decode.specs.Inner.Sizes.{input_room, Counted}
use Rattle.decode.specs.declared.run.Run.{Run}
use Rattle.decode.specs.declared.turn.Laid.{Laid}
use Rattle.decode.proofs.StepLaws.{size_of, after-counted}

-- ---- lay_read: where nothing is laid

module _ (z : Option ℕ) (run : Run) (buf block : List ℕ) (after : Run) (r : Laid) (silent : r ≡ record { run = after; written = 0 }) where
  module _ (n : z ≡ None) where
    pub failed-stage : after ≡ stopped_run → stage_in r.run buf ≡ turn_stage (stage_in run buf) block z
    failed-stage e = rw (silent, e, n)

    pub failed-text : (out : List ℕ) → part out 0 r.written ≡ turn_text (stage_in run buf) block z
    failed-text out = rw (silent, n)

  module _ (n : z ≡ Some 0) where
    pub ended-stage : after ≡ ended_run run → stage_in r.run buf ≡ turn_stage (stage_in run buf) block z
    ended-stage e = rw (silent, e, n)

    pub ended-text : (out : List ℕ) → part out 0 r.written ≡ turn_text (stage_in run buf) block z
    ended-text out = rw (silent, n)

-- ---- lay_read: the bytes that were read, behind those that are kept

by-gave : {A : Type 0} (failed ended gave : A) (n : ℕ) → (n ≡ 0 → ⊥) → by_read failed ended gave (Some n) ≡ gave
by-gave failed ended gave zero f = absurd (f refl)
by-gave failed ended gave (suc n) f = refl

module _ (run : Run) (buf : List ℕ) (n : ℕ) (moved : n ≤ length buf - run.kept) (some : n ≡ 0 → ⊥) where
  abbrev stage : Stage
  stage = stage_in run buf

  abbrev block : List ℕ
  block = block_in run buf (Some n)

  behind : part buf 0 (run.kept + n) ≡ part buf 0 run.kept ++ block
  behind =
      let size : run.kept + n - run.kept ≡ n = omega arith in
      rw (sub-zero (run.kept + n), sub-zero run.kept, size) (take-add run.kept n buf)

  gave-stage : (after : Run) → after ≡ after_step run (part buf 0 (run.kept + n)) → (buf1 : List ℕ)
      → part buf1 0 after.kept ≡ kept_bytes run.progress (part buf 0 (run.kept + n)) → stage_in after buf1 ≡ turn_stage stage block (Some n)
  gave-stage after e buf1 k =
      let next : stage_in after buf1 ≡ next_stage stage block = rw (k, e, behind) in
      next ∙ sym (by-gave stopped_stage (ended_stage stage) (next_stage stage block) n some)

  gave-text : (text : List ℕ) → text ≡ step_text run.progress (part buf 0 (run.kept + n)) → text ≡ turn_text stage block (Some n)
  gave-text text e = e ∙ ap (step_text run.progress) behind ∙ sym (by-gave [] [] (next_text stage block) n some)

  gave-counted : (most : ℕ) (after : Run) → Counted most run → run.kept ≤ length buf → length buf ≡ input_room → after ≡ after_step run (part buf 0 (run.kept + n)) → Counted (run.lines + input_room) after
  gave-counted most after counted h room e = rw e (after-counted run (part buf 0 (run.kept + n)) most counted (omega (arith, room, size_of buf (run.kept + n) (omega (arith, h, moved)))))

  pub gave-laid : (most : ℕ) (after : Run) (buf1 text : List ℕ) → Counted most run → run.kept ≤ length buf → length buf ≡ input_room → after ≡ after_step run (part buf 0 (run.kept + n))
      → part buf1 0 after.kept ≡ kept_bytes run.progress (part buf 0 (run.kept + n)) → text ≡ step_text run.progress (part buf 0 (run.kept + n))
      → (stage_in after buf1 ≡ turn_stage stage block (Some n)) × ((text ≡ turn_text stage block (Some n)) × Counted (run.lines + input_room) after)
  gave-laid most after buf1 text counted h room e k t = (gave-stage after e buf1 k, (gave-text text t, gave-counted most after counted h room e))

-- ---- how large the numbers get

-- before the first byte, and after a failure
pub none-counted : (most : ℕ) (progress : Progress) (more : Bool) (r : Run) → r ≡ record { progress = progress; kept = 0; lines = 0; refused = 0; more = more } → Counted most r
none-counted most progress more r e = rw e (record { kept = omega arith; lines = omega arith; refused = omega arith })

pub stopped-counted : (most : ℕ) (r : Run) → r ≡ stopped_run → Counted most r
stopped-counted most r e = none-counted most stopped_run.progress false r e

pub ended-counted : (most : ℕ) (run r : Run) → Counted most run → r ≡ ended_run run → Counted (run.lines + input_room) r
ended-counted most run r g e = rw e (record { kept = g.kept; lines = omega arith; refused = g.refused })

pub silent-counted : (most : ℕ) (after : Run) (r : Laid) → r ≡ record { run = after; written = 0 } → Counted most after → Counted most r.run
silent-counted most after r e g = rw e g

pub ruleset read-laws = (failed-stage, failed-text, ended-stage, ended-text, stopped-counted, ended-counted, silent-counted)

-- ---- read_block: a read into the part of the buffer behind the kept bytes

module _ (buf last : List ℕ) (kept : ℕ) (h : kept ≤ length buf) (l : length last ≡ length (take (length buf - kept) (drop kept buf))) where
  abbrev filled : List ℕ
  filled = put_mid kept (length buf - kept) buf last

  -- the kept bytes are as they were
  pub filled-front : part filled 0 kept ≡ part buf 0 kept
  filled-front = rw (sub-zero kept) (take_at (take kept buf) (last ++ post_of kept (length buf - kept) buf) kept (length-take-le kept buf h))

-- what read moved: no more than there is room for behind the kept bytes
pub block-moved : (buf last : List ℕ) (kept n : ℕ) → length last ≡ length (take (length buf - kept) (drop kept buf)) → n ≤ length last → n ≤ length buf - kept
block-moved buf last kept n same few =
    let size : length (take (length buf - kept) (drop kept buf)) ≤ length buf - kept = simp (length-take, length-drop) (omega arith) in
    omega (arith, size, same, few)

-- ---- finish

pub prints-end : (run : Run) (buf rest text : List ℕ) (after : Run) → rest ≡ part buf 0 run.kept → Reached (stage_in run buf) → after ≡ ended_run run → text ≡ end_text run rest → Prints after text
prints-end run buf rest text after e k a t = end (stage_in run buf) k a (t ∙ ap (end_text run) e)

-- ---- the stages that the program comes to

pub first-reached : (run : Run) (buf : List ℕ) → run ≡ first_run → Reached (stage_in run buf)
unfolding stage_after
first-reached run buf e = rw e (reading [] refl)

module _ (stage : Stage) (first : List ℕ) (blocks : List (List ℕ)) where
  stage-goes-on : stage.run.more ≡ true → stage_after stage (first ∷ blocks) ≡ stage_after (next_stage stage first) blocks
  unfolding stage_after
  stage-goes-on e = ap (λ (more : Bool). pick more (stage_after (next_stage stage first) blocks) stage) e

  stage-stays : stage.run.more ≡ false → (stage_after stage (first ∷ blocks)).run.more ≡ false
  unfolding stage_after
  stage-stays e = ap (λ (more : Bool). (pick more (stage_after (next_stage stage first) blocks) stage).run.more) e ∙ e

module _ (block : List ℕ) where
  one-more-by : (first : List ℕ) (blocks : List (List ℕ)) (stage : Stage) (more : Bool) → stage.run.more ≡ more
      → ((stage_after (next_stage stage first) blocks).run.more ≡ true → stage_after (next_stage stage first) (blocks ++ (block ∷ [])) ≡ next_stage (stage_after (next_stage stage first) blocks) block)
      → (stage_after stage (first ∷ blocks)).run.more ≡ true → stage_after stage (first ∷ (blocks ++ (block ∷ []))) ≡ next_stage (stage_after stage (first ∷ blocks)) block
  one-more-by first blocks stage true e later m =
      let same = stage-goes-on stage first blocks e in
      stage-goes-on stage first (blocks ++ (block ∷ [])) e ∙ later (sym (ap (λ (x : Stage). x.run.more) same) ∙ m) ∙ sym (ap (λ (x : Stage). next_stage x block) same)
  one-more-by first blocks stage false e later m = absurd (false≢true (sym (stage-stays stage first blocks e) ∙ m))

  -- one block more
  after-one-more : (blocks : List (List ℕ)) (stage : Stage) → (stage_after stage blocks).run.more ≡ true → stage_after stage (blocks ++ (block ∷ [])) ≡ next_stage (stage_after stage blocks) block
  unfolding stage_after
  after-one-more [] stage m = stage-goes-on stage block [] m
  after-one-more (first ∷ blocks) stage m = one-more-by first blocks stage stage.run.more refl (after-one-more blocks (next_stage stage first)) m

  read_by : (blocks : List (List ℕ)) (stage : Stage) (z : Option ℕ) → stage ≡ stage_after first_stage blocks → stage.run.more ≡ true → Reached (turn_stage stage block z)
  read_by blocks from None e m = stopped refl
  read_by blocks from (Some zero) e m = done blocks (ap ended_stage e)
  read_by blocks from (Some (suc n)) e m =
      reading (blocks ++ (block ∷ [])) (ap (λ (x : Stage). next_stage x block) e ∙ sym (after-one-more blocks first_stage (sym (ap (λ (x : Stage). x.run.more) e) ∙ m)))

  read-reached : (stage : Stage) (z : Option ℕ) → Reached stage → stage.run.more ≡ true → Reached (turn_stage stage block z)
  read-reached from z (reading blocks e) m = read_by blocks from z e m
  read-reached from z (done blocks e) m = absurd (false≢true (sym (ap (λ (x : Stage). x.run.more) e) ∙ m))
  read-reached from z (stopped e) m = absurd (false≢true (sym (ap (λ (x : Stage). x.run.more) e) ∙ m))

-- a turn: the buffer before it, after read_block and after lay_read
module _ (run : Run) (buf buf1 buf2 : List ℕ) (z : Option ℕ) (after : Run) (reached : Reached (stage_in run buf)) (more : run.more ≡ true)
    (front : part buf1 0 run.kept ≡ part buf 0 run.kept) (stage : stage_in after buf2 ≡ turn_stage (stage_in run buf1) (block_in run buf1 z) z) where
  still : Reached (stage_in run buf1)
  still = rw front reached

  pub prints-turn : (text : List ℕ) → text ≡ turn_text (stage_in run buf1) (block_in run buf1 z) z → Prints after text
  prints-turn text e = turn (stage_in run buf1) (block_in run buf1 z) z still more (ap (λ (x : Stage). x.run) stage) e

  pub turn-reached : (r : Run) → (r ≡ after) ⊎ (r ≡ stopped_run) → Reached (stage_in r buf2)
  turn-reached r (inl e) = rw (e, stage) (read-reached (block_in run buf1 z) (stage_in run buf1) z still more)
  turn-reached r (inr e) = rw e (stopped refl)

pub turn-counted : (most : ℕ) (after r : Run) → Counted most after → (r ≡ after) ⊎ (r ≡ stopped_run) → Counted most r
turn-counted most after r g (inl e) = rw e g
turn-counted most after r g (inr e) = stopped-counted most r e
