-- What a packet line comes to, return by return.
use Rattle.std.proofs.Common.{◌≡◌, ℕ, ◌+◌, ◌-◌, ◌/◌, ◌%◌, ◌≤◌, ◌<◌, min, Bool, true, false, ◌&&◌, eqb, List, length, take, drop, length-drop, refl, sym, ◌∙◌, arith, le-leb, eq-eqb, Option, Some, None, Result, Ok, Err, option_and_then}
use lib.Seq.{take_all}
use native.Mathlib.Nat.{le_of_eq}
use borrow.Author.Tests.{lt-leb, ne_eqb}
use Rattle.std.specs.Option.{ok_or}
use Rattle.std.proofs.lemmas.Option.{none-some}
use Rattle.bits.specs.Choice.{pick}
use Rattle.text.specs.Laid.{fits, laid}
use Rattle.text.specs.Digit.{all_digits}
use Rattle.text.specs.Hex.{pairs, bytes_spelled, front_answer, front_over}
use Rattle.text.proofs.HexLaws.{length_pairs, front_length}
use Rattle.capture.specs.PacketLines.{front_of, PacketText, counted, packet_line, entry_answer, packet_over}
use Rattle.capture.specs.Inner.Unlaid.{unlaid}
use Rattle.tlp.specs.declared.refusal.Refusal.{Refusal}
use Rattle.tlp.specs.declared.refusal.Refusal.TheVariants.{BadLine}
use Rattle.capture.specs.declared.packet_line.Front.{Front}

-- what `?` tells behind `ok_or`
ok-some : {A : Type 0} (o : Option A) (x : A) → ok_or o BadLine ≡ Ok x → o ≡ Some x
ok-some None x e = let z : ◌≡◌ {A = ℕ} 0 1 = cc in absurd (omega arith)
ok-some (Some y) x e = cc

pub ok-none : {A : Type 0} (o : Option A) (x : Refusal) → ok_or o BadLine ≡ Err x → (o ≡ None) × (x ≡ BadLine)
ok-none None x e = (refl, cc)
ok-none (Some y) x e = let z : ◌≡◌ {A = ℕ} 0 1 = cc in absurd (omega arith)

-- what a line holds whose digits are good
abbrev held : Front → List ℕ → PacketText
held f d = record { at = f.at; direction = f.direction; bytes = pairs d }

-- the line's front f, and its digits d
module _ (most : ℕ) (text out : List ℕ) (o : Option Front) (e : o ≡ front_of text) (w : Result Front Refusal) (b : w ≡ ok_or o BadLine) (f : Front) (t : w ≡ Ok f)
    (d : List ℕ) (p : d ≡ take (length text - f.digits) (drop f.digits text)) where
  good-line : packet_line text ≡ option_and_then (counted f) (bytes_spelled d)
  unfolding packet_line
  good-line = rw (← e, ok-some o f (sym b ∙ t), p, take_all (length text - f.digits) (drop f.digits text) (le_of_eq (length-drop f.digits text)))

  module _ (h : length d / 2 ≡ f.size → ⊥) where
    -- where the count is another, digits that spell bytes and digits that do not come to the same
    other-line : packet_line text ≡ None
    unfolding bytes_spelled
    other-line = good-line ∙ by (eqb (length d % 2) 0 && all_digits 16 d)
      where
        by : (t : Bool) → option_and_then (counted f) (pick t (Some (pairs d)) None) ≡ None
        by true = rw (ne_eqb (length (pairs d)) f.size (λ (q : length (pairs d) ≡ f.size). h (length_pairs d ∙ q)))
        by false = refl

    pub other-answer : Err BadLine ≡ entry_answer most (packet_line text) out
    other-answer = rw other-line

    pub other-over : out ≡ packet_over most (packet_line text) out
    other-over = rw other-line

  module _ (h : length d / 2 ≡ f.size) where
    counted-line : packet_line text ≡ pick (eqb (length d % 2) 0 && all_digits 16 d) (Some (held f d)) None
    unfolding bytes_spelled
    counted-line = good-line ∙ by (eqb (length d % 2) 0 && all_digits 16 d)
      where
        by : (t : Bool) → option_and_then (counted f) (pick t (Some (pairs d)) None) ≡ pick t (Some (held f d)) None
        by true = rw (eq-eqb (length (pairs d)) f.size (sym (length_pairs d) ∙ h))
        by false = refl

    module _ (k : ℕ) (j : k ≡ min most (length d / 2)) (l : length out < k) where
      short : fits 0 (take most (pairs d)) out ≡ false
      short = lt-leb (0 + length (take most (pairs d))) (length out) (omega (arith, front_length most d))

      pub short-answer : (r : Refusal) → r ≡ unlaid (bytes_spelled d) → Err r ≡ entry_answer most (packet_line text) out
      unfolding bytes_spelled
      short-answer r q = rw (q, counted-line) (by (eqb (length d % 2) 0 && all_digits 16 d))
        where
          by : (t : Bool) → Err (unlaid (pick t (Some (pairs d)) None)) ≡ entry_answer most (pick t (Some (held f d)) None) out
          by true = rw short
          by false = refl

      pub short-over : out ≡ packet_over most (packet_line text) out
      unfolding laid
      short-over = rw counted-line (by (eqb (length d % 2) 0 && all_digits 16 d))
        where
          by : (t : Bool) → out ≡ packet_over most (pick t (Some (held f d)) None) out
          by true = rw short
          by false = refl

    pub last-over : (last : List ℕ) → last ≡ front_over most (bytes_spelled d) out → last ≡ packet_over most (packet_line text) out
    unfolding bytes_spelled front_over
    last-over last q = q ∙ rw counted-line (by (eqb (length d % 2) 0 && all_digits 16 d))
      where
        by : (t : Bool) → front_over most (pick t (Some (pairs d)) None) out ≡ packet_over most (pick t (Some (held f d)) None) out
        by true = refl
        by false = refl

    module _ (k : ℕ) (j : k ≡ min most (length d / 2)) (l : k ≤ length out) (a : Option ℕ) (m : a ≡ front_answer most (bytes_spelled d) out) where
      room : fits 0 (take most (pairs d)) out ≡ true
      room = le-leb (0 + length (take most (pairs d))) (length out) (omega (arith, front_length most d))

      pub last-bad : a ≡ None → Err BadLine ≡ entry_answer most (packet_line text) out
      unfolding bytes_spelled front_answer
      last-bad b = rw counted-line (by (eqb (length d % 2) 0 && all_digits 16 d) (sym m ∙ b))
        where
          by : (t : Bool) → front_answer most (pick t (Some (pairs d)) None) out ≡ None → Err BadLine ≡ entry_answer most (pick t (Some (held f d)) None) out
          by true h = absurd (none-some (length (pairs d)) (sym (rw room at h)))
          by false h = refl

      last-some : (n : ℕ) → a ≡ Some n → Ok (record { at = f.at; direction = f.direction; size = n }) ≡ entry_answer most (packet_line text) out
      unfolding bytes_spelled front_answer
      last-some n b = rw counted-line (by (eqb (length d % 2) 0 && all_digits 16 d) (sym m ∙ b))
        where
          by : (t : Bool) → front_answer most (pick t (Some (pairs d)) None) out ≡ Some n → Ok (record { at = f.at; direction = f.direction; size = n }) ≡ entry_answer most (pick t (Some (held f d)) None) out
          by true h = let z : Some (length (pairs d)) ≡ Some n = rw room at h in let q : length (pairs d) ≡ n = cc in rw (room, q)
          by false h = absurd (none-some n h)

      pub last-packet : (r : Result ℕ Refusal) → r ≡ ok_or a BadLine → (n : ℕ) → r ≡ Ok n → Ok (record { at = f.at; direction = f.direction; size = n }) ≡ entry_answer most (packet_line text) out
      last-packet r q n i = last-some n (ok-some a n (sym q ∙ i))

pub ruleset packet_line_laws = (other-answer, other-over, short-answer, short-over, last-over, last-bad, last-packet)
