-- One law for each return of writing a record, for the answer and for the output.
use Prim.Native.Nat.{ℕ}
use mathlib.Core.Path.{◌≡◌, refl, sym, ap, ◌∙◌}
use mathlib.Core.Bool.{Bool, true, false, ◌&&◌, not, true≢false, and-eq-true_iff}
use mathlib.Core.List.{List}
use lib.Dec.{eqb}
use lib.ListN.{length}
use borrow.Author.Tests.{eqb-true}
use Rattle.bits.specs.Choice.{pick}
use Rattle.tlp.specs.Settings.{settings_listed}
use Rattle.tlp.specs.declared.settings.Settings.{Settings}
use Rattle.tlp.specs.Rows.{first}
use Rattle.tlp_writable.specs.Given.{common_bad, own_bad, reserved_given, route_bad, given_rows}
use Rattle.std.specs.Prelude.{Result, Ok, Err}
use Rattle.tlp.specs.Refusals.{refusal, checked}
use Rattle.tlp.specs.declared.refusal.Refusal.{Refusal}
use Rattle.tlp.specs.declared.refusal.Refusal.TheVariants.{BadField, BadSetting}
use Rattle.tlp_write.specs.declared.head.Head.{Head}
use Rattle.tlp_write.specs.Layout.{bytes_of}
use Rattle.tlp_write.specs.Write.{field_rows, write_packet, out_after, write_out}
use Rattle.tlp_write.specs.Inner.Head.{head_answer, head_out, IsHead}
use Rattle.tlp_write.proofs.WriteLaws.{head-answer, head-out}
use Rattle.tlp_record.specs.Record.{record_packet, is_record}
use Rattle.tlp_record_write.specs.Inner.Fit.{writable}
use Rattle.tlp_record_write.specs.RecordWrite.{record_answer, record_out}

-- a record that cannot be written has a row for the first 6
first-six : (a b c d : Bool) (m : ℕ) → eqb (pick a 6 (pick b 6 (pick c 6 (pick d 6 0)))) 0 ≡ false → pick a 6 (pick b 6 (pick c 6 (pick d 6 m))) ≡ 6
first-six true b c d m e = refl
first-six false true c d m e = refl
first-six false false true d m e = refl
first-six false false false true m e = refl
first-six false false false false m e = absurd (true≢false e)

not-fit : (b : Bool) (g : ℕ) → b && eqb g 0 ≡ false → b ≡ true → eqb g 0 ≡ false
not-fit true g e h = e
not-fit false g e h = absurd (true≢false (sym h))

module _ (c : Settings) (s : List ℕ) (l : Bool) (el : l ≡ settings_listed c) where
  module _ (h : not l ≡ true) where
    unlisted-same : (n room : ℕ) → record_answer c s n room ≡ Err BadSetting
    unfolding record_answer
    unlisted-same n room = rw (← el, h)

    pub unlisted-answer : (n room : ℕ) (x : Result ℕ Refusal) → x ≡ Err BadSetting → x ≡ record_answer c s n room
    unlisted-answer n room x q = q ∙ sym (unlisted-same n room)

    pub unlisted-out : (payload out : List ℕ) → out ≡ record_out c s payload out
    unfolding record_out
    unlisted-out payload out = rw (unlisted-same (length payload) (length out))

  module _ (h : not l ≡ false) where
    module _ (k : writable s ≡ false) where
      refused-by-6 : is_record s ≡ true → (n room : ℕ) → write_packet c (record_packet s) n room ≡ Err BadField
      unfolding writable write_packet first refusal
      refused-by-6 r n room =
          let p = record_packet s in
          let g : eqb (first (given_rows p)) 0 ≡ false = not-fit (is_record s) (first (given_rows p)) k r in
          rw (← el, h, first-six (common_bad p) (own_bad p.kind) (reserved_given p) (route_bad p.route p.kind) _ g)

      unfit-same : (n room : ℕ) → record_answer c s n room ≡ Err BadField
      unfolding record_answer
      unfit-same n room = rw (← el, h) (by (is_record s) refl)
        where
          by : (b : Bool) → is_record s ≡ b → pick (not b) (Err BadField) (write_packet c (record_packet s) n room) ≡ Err BadField
          by true r = refused-by-6 r n room
          by false r = refl

      pub unfit-answer : (n room : ℕ) (x : Result ℕ Refusal) → x ≡ Err BadField → x ≡ record_answer c s n room
      unfit-answer n room x q = q ∙ sym (unfit-same n room)

      pub unfit-out : (payload out : List ℕ) → out ≡ record_out c s payload out
      unfolding record_out
      unfit-out payload out = rw (unfit-same (length payload) (length out))

    module _ (k : writable s ≡ true) (d : Head) (j : IsHead d (record_packet s)) where
      fits : (is_record s ≡ true) × (eqb (first (given_rows (record_packet s))) 0 ≡ true)
      unfolding writable
      fits = (and-eq-true_iff (is_record s) (eqb (first (given_rows (record_packet s))) 0)).0 k

      none-hold : Ok tt ≡ checked (first (field_rows c (record_packet s)))
      unfolding first
      none-hold = rw (← el, h, eqb-true (first (given_rows (record_packet s))) 0 fits.1)

      written_same : (n room : ℕ) → write_packet c (record_packet s) n room ≡ record_answer c s n room
      unfolding record_answer
      written_same n room = rw (← el, h, fits.0)

      pub written-answer : (n room : ℕ) (x : Result ℕ Refusal) → x ≡ head_answer c.mps d n room → x ≡ record_answer c s n room
      written-answer n room x q = head-answer d (record_packet s) j c none-hold n room x q ∙ written_same n room

      pub written_out : (payload out last : List ℕ) → last ≡ head_out c.mps d payload out → last ≡ record_out c s payload out
      unfolding record_out write_out
      written_out payload out last q =
          head-out d (record_packet s) j c none-hold payload out last q
          ∙ ap (λ (x : Result ℕ Refusal). out_after x (bytes_of (record_packet s) payload) out) (written_same (length payload) (length out))
