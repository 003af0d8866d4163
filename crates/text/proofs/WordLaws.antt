-- Words and keys: one law for each place of the code.
use Rattle.std.proofs.Common.{◌≡◌, ℕ, zero, suc, ◌+◌, ◌-◌, ◌<◌, ◌≤◌, min, Bool, true, false, not, ◌&&◌, eqb, leb, List, [], ◌∷◌, length, get_or, take, drop, sym, refl, ◌∙◌, ⊎_elim, le_of_eq, add-zero, sub-eq-zero_of_le, add-one, arith, length-drop, drop_of_length-le, take_all, drop-cons, eq-eqb, ne_eqb, le-leb, leb-true, Some, None}
use mathlib.Core.Bool.{and-false, false≢true}
use lib.Seq.{take-nil}
use lib.Pointwise.{pointwise}
use borrow.Author.Tests.{lt-leb, not-true, not-false}
use Rattle.text.specs.Words.{word_length, word_end, begins_with, starts_with, value_at}
use Rattle.text.proofs.Order.{lt-or-le, and_left, and_right}

-- ---- a part, clipped

module _ (text : List ℕ) (from to : ℕ) where
  none_from : length text ≤ from → take (to - from) (drop from text) ≡ []
  none_from h = rw (drop_of_length-le text h) (take-nil (to - from))

  none-to : to ≤ from → take (to - from) (drop from text) ≡ []
  none-to h = rw (sub-eq-zero_of_le h)

  clipped-all : length text ≤ to → take (to - from) (drop from text) ≡ drop from text
  clipped-all h = take_all (to - from) (drop from text) (rw (length-drop from text) (omega arith))

  pub clipped : (e a : ℕ) → e ≡ min to (length text) → a ≡ min from e → take (e - a) (drop a text) ≡ take (to - from) (drop from text)
  clipped e a f g =
      ⊎_elim
      (λ (h : from < e).
      let k : a ≡ from = omega arith in
      ⊎_elim
      (λ (l : to < length text). let m : e ≡ to = omega arith in rw (k, m))
      (λ (l : length text ≤ to).
      let m : e ≡ length text = omega arith in
      rw (k, m, clipped-all l) (take_all (length text - from) (drop from text) (le_of_eq (length-drop from text))))
      (lt-or-le to (length text)))
      (λ (h : e ≤ from).
      let k : a ≡ e = omega arith in
      rw k (rw (sub-eq-zero_of_le (le_of_eq {n = e} refl)) (sym (⊎_elim (λ (l : to < length text). none-to (omega arith)) (λ (l : length text ≤ to). none_from (omega arith)) (lt-or-le to (length text))))))
      (lt-or-le from e)

-- ---- the end of a word

end-start : (text : List ℕ) (at i : ℕ) → i ≡ min at (length text) → i + word_length (drop i text) ≡ word_end text at
unfolding word_end
end-start text at i e =
    ⊎_elim
    (λ (h : at < length text). let k : i ≡ at = omega arith in rw (← e, k))
    (λ (h : length text ≤ at).
    let k : i ≡ length text = omega arith in
    rw (← e, drop_of_length-le text h, drop_of_length-le text (le_of_eq (sym k))))
    (lt-or-le at (length text))

module _ (text : List ℕ) (i t : ℕ) (q : i + word_length (drop i text) ≡ t) where
  end-done : length text ≤ i → i ≡ t
  unfolding word_length
  end-done h = sym (add-zero i) ∙ (rw (drop_of_length-le text h) at q)

  module _ (h : i < length text) where
    end-space : get_or text i 0 ≡ 32 → i ≡ t
    unfolding word_length
    end-space e = sym (add-zero i) ∙ (rw (drop-cons text i 0 h, eq-eqb (get_or text i 0) 32 e) at q)

    end-next : (get_or text i 0 ≡ 32 → ⊥) → i + 1 + word_length (drop (i + 1) text) ≡ t
    unfolding word_length
    end-next e =
        let k : i + suc (word_length (drop (suc i) text)) ≡ t = rw (drop-cons text i 0 h, ne_eqb (get_or text i 0) 32 e) at q in
        rw (add-one i) (omega arith)

module _ (text : List ℕ) (r t : ℕ) (w : r ≤ length text) (f : r < length text → get_or text r 0 ≡ 32) where
  end-walk : (n i : ℕ) → n + i ≡ r → ((k : ℕ) → i ≤ k → k < r → get_or text k 0 ≡ 32 → ⊥) → i + word_length (drop i text) ≡ t → r ≡ t
  end-walk zero i e b q =
      let g : i ≡ r = omega arith in
      ⊎_elim
      (λ (h : r < length text). sym g ∙ end-space text i t q (omega arith) (rw g (f h)))
      (λ (h : length text ≤ r). sym g ∙ end-done text i t q (omega arith))
      (lt-or-le r (length text))
  end-walk (suc n) i e b q =
      end-walk n (i + 1) (omega arith) (λ k g h. b k (omega arith) h) (end-next text i t q (omega arith) (b i (omega arith) (omega arith)))

module _ (text : List ℕ) (at r : ℕ) (w : r ≤ length text) where
  pub end-found : (at ≤ length text → at ≤ r) → (length text < at → r ≡ length text) → ((k : ℕ) → at ≤ k → k < r → get_or text k 0 ≡ 32 → ⊥) → (r < length text → get_or text r 0 ≡ 32) → r ≡ word_end text at
  end-found g p b f =
      ⊎_elim
      (λ (h : length text < at). p h ∙ end-done text (length text) (word_end text at) (end-start text at (length text) (omega arith)) (omega arith))
      (λ (h : at ≤ length text).
      let q : at ≤ r = g h in
      end-walk text r (word_end text at) w f (r - at) at (omega arith) b (end-start text at at (omega arith)))
      (lt-or-le (length text) at)

-- ---- keys

pub key-long : (key text : List ℕ) → length text < length key → false ≡ begins_with key text
unfolding begins_with
key-long [] text h = absurd (omega arith)
key-long (k ∷ key) [] h = refl
key-long (k ∷ key) (b ∷ text) h = rw (← key-long key text (omega arith), and-false (eqb b k))

eqb-turn : (a b : ℕ) → eqb a b ≡ eqb b a
eqb-turn a b = ⊎_elim (λ (h : a < b). ne_eqb a b (λ e. omega arith) ∙ sym (ne_eqb b a (λ e. omega arith))) (λ (h : b ≤ a). ⊎_elim (λ (l : b < a). ne_eqb a b (λ e. omega arith) ∙ sym (ne_eqb b a (λ e. omega arith))) (λ (l : a ≤ b). let e : a ≡ b = omega arith in rw e) (lt-or-le b a)) (lt-or-le a b)

-- as the library tests it
begins-std : (key text : List ℕ) → pointwise eqb key (take (length key) text) ≡ begins_with key text
unfolding begins_with
begins-std [] text = refl
begins-std (k ∷ key) [] = refl
begins-std (k ∷ key) (b ∷ text) = rw (eqb-turn k b, begins-std key text)

module _ (text key : List ℕ) (at : ℕ) where
  pub starts-past : length text < at → leb at (length text) ≡ starts_with text at key
  unfolding starts_with
  starts-past h = rw (lt-leb at (length text) h)

  pub starts-here : (r : Bool) → at ≤ length text → r ≡ pointwise eqb key (take (length key) (take (length text - at) (drop at text))) → r ≡ starts_with text at key
  unfolding starts_with
  starts-here r h e = rw (le-leb at (length text) h) (rw (take_all (length text - at) (drop at text) (le_of_eq (length-drop at text)), begins-std key (drop at text)) at e)

pub ruleset starts-laws = (starts-past, starts-here)

-- ---- the value of a key

begins-le : (key text : List ℕ) → begins_with key text ≡ true → length key ≤ length text
begins-le key text e = ⊎_elim (λ (h : length text < length key). absurd (false≢true (key-long key text h ∙ e))) (λ (h : length key ≤ length text). h) (lt-or-le (length text) (length key))

module _ (text key : List ℕ) (at : ℕ) (r : Bool) (e : r ≡ starts_with text at key) where
  pub starts-le : not r ≡ false → at + length key ≤ length text
  unfolding starts_with
  starts-le h =
      let g : leb at (length text) && begins_with key (drop at text) ≡ true = sym e ∙ not-false r h in
      omega (arith, leb-true at (length text) (and_left _ _ g), begins-le key (drop at text) (and_right (leb at (length text)) _ g), length-drop at text)

  pub value-missing : not r ≡ true → None ≡ value_at text at key
  unfolding value_at
  value-missing h = rw (← e, not-true r h)

  pub value_found : (to : ℕ) → not r ≡ false → to ≡ word_end text (at + length key) → Some (record { from = at + length key; to = to }) ≡ value_at text at key
  unfolding value_at
  value_found to h f = rw (← e, not-false r h, f)

pub ruleset found-laws = (value-missing, value_found)
