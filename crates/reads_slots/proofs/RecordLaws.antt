-- A record put in: what that tag and every other one has, how long the lists are, and that what is read fits.
use Prim.Native.Nat.{ℕ, ◌*◌, ◌/◌, ◌≤◌, ◌<◌}
use native.Mathlib.Omega.{arith}
use mathlib.Core.Path.{◌≡◌, refl, sym, ap}
use mathlib.Core.Bool.{Bool, true, false}
use mathlib.Core.List.{List}
use lib.Dec.{ltb}
use lib.ListN.{length, replicate}
use borrow.Author.Tests.{lt-ltb, le-ltb}
use Rattle.std.specs.Prelude.{Option, Some, None}
use Rattle.bits.specs.Choice.{pick}
use Rattle.reads_rules.specs.declared.request.ReadRequest.{ReadRequest}
use Rattle.reads_rules.specs.declared.read.Read.{Read}
use Rattle.reads_words.specs.Capacity.{capacity}
use Rattle.reads_words.specs.TagSets.{with_bit, without_bit, contains, without_tag}
use Rattle.reads_words.proofs.SetLaws.{empty-in, length-changed, in-with, in_without, in-with-other, in-without-other}
use Rattle.reads_words.proofs.OrderLaws.{with-twice, without-twice, without-after, with-after, with-with-tag, without-without-tag, without-with-tag}
use Rattle.reads_words.specs.Words.{read_at, put_read, clear_read}
use Rattle.reads_words.specs.Inner.Fits.{Fits}
use Rattle.reads_words.proofs.WordLaws.{length-put, length-clear, read-put, read-put-other, read-clear-other, at-fits, words-order as put_order, words_last as last-words}
use Rattle.reads_slots.specs.Records.{record_at, state_below, opened_with, words_with}
use Rattle.reads_slots.specs.Inner.Fits.{FitsIn}

pub length-opened : (opened : List ℕ) (tag : ℕ) (x : Option Read) → length (opened_with opened tag x) ≡ length opened
length-opened opened tag None = length-changed without_bit opened tag
length-opened opened tag (Some r) = length-changed with_bit opened tag

pub length-words : (words : List ℕ) (tag : ℕ) (x : Option Read) → length (words_with words tag x) ≡ length words
length-words words tag None = length-clear words tag
length-words words tag (Some r) = length-put words tag r

-- of an empty set every record is free
pub record-empty : (n tag : ℕ) (words : List ℕ) → record_at (replicate n 0) words tag ≡ None
unfolding record_at
record-empty n tag words = rw (empty-in n tag)

-- a free record fits, and an open one whose request does, with any number of doublewords taken
pub free-fits : FitsIn None
free-fits r e =
    let z : ◌≡◌ {A = ℕ} 0 1 = cc in
    absurd (omega arith)

pub open-fits : (q : ReadRequest) (p : ℕ) → Fits q → FitsIn (Some (record { request = q; taken = p }))
open-fits q p f r e =
    let k : ◌≡◌ {A = Read} (record { request = q; taken = p }) r = cc in
    rw (ap (λ (z : Read). z.request) k) at f

-- what is read fits
pub record-fits : (opened words : List ℕ) (tag : ℕ) → FitsIn (record_at opened words tag)
unfolding record_at
record-fits opened words tag = go (contains opened tag)
  where
    go : (b : Bool) → FitsIn (pick b (Some (read_at words tag)) None)
    go true = open-fits (read_at words tag).request (read_at words tag).taken (at-fits words tag)
    go false = free-fits

-- a tag taken out of the set is free, whatever the words are
pub record_freed : (opened words : List ℕ) (tag : ℕ) → record_at (without_tag opened tag) words tag ≡ None
unfolding record_at
record_freed opened words tag = rw (in_without opened tag)

module _ (opened words : List ℕ) (tag : ℕ) where
  pub record_same : (x : Option Read) → tag < capacity → length opened ≡ capacity / 64 → length words ≡ 4 * capacity → FitsIn x → record_at (opened_with opened tag x) (words_with words tag x) tag ≡ x
  unfolding record_at
  record_same None k l m f = record_freed opened (clear_read words tag) tag
  record_same (Some r) k l m f = rw (in-with opened tag k (omega arith), read-put words tag r k (omega arith) (f r refl))

  pub record-other : (x : Option Read) (u : ℕ) → (u ≡ tag → ⊥) → record_at (opened_with opened tag x) (words_with words tag x) u ≡ record_at opened words u
  unfolding record_at
  record-other None u n = rw (in-without-other opened tag u n, read-clear-other words tag u n)
  record-other (Some r) u n = rw (in-with-other opened tag u n, read-put-other words tag r u n)

-- the records of two tags, in either order
module _ (u v : ℕ) (n : u ≡ v → ⊥) where
  pub opened-order : (opened : List ℕ) (x y : Option Read) → opened_with (opened_with opened u x) v y ≡ opened_with (opened_with opened v y) u x
  opened-order opened None None = without-without-tag opened u v n
  opened-order opened None (Some r') = sym (without-with-tag opened v u (λ e. n (sym e)))
  opened-order opened (Some r) None = without-with-tag opened u v n
  opened-order opened (Some r) (Some r') = with-with-tag opened u v n

  pub words-order : (words : List ℕ) (x y : Option Read) → words_with (words_with words u x) v y ≡ words_with (words_with words v y) u x
  unfolding put_read clear_read
  words-order words None None = put_order words u v _ _ _ _ _ _ _ _ n
  words-order words None (Some r') = put_order words u v _ _ _ _ _ _ _ _ n
  words-order words (Some r) None = put_order words u v _ _ _ _ _ _ _ _ n
  words-order words (Some r) (Some r') = put_order words u v _ _ _ _ _ _ _ _ n

-- the record of one tag twice: the last counts
module _ (u : ℕ) where
  pub opened-last : (opened : List ℕ) (x y : Option Read) → opened_with (opened_with opened u x) u y ≡ opened_with opened u y
  opened-last opened None None = without-twice opened u
  opened-last opened None (Some r') = with-after opened u
  opened-last opened (Some r) None = without-after opened u
  opened-last opened (Some r) (Some r') = with-twice opened u

  pub words_last : (words : List ℕ) (x y : Option Read) → words_with (words_with words u x) u y ≡ words_with words u y
  unfolding put_read clear_read
  words_last words None None = last-words words u _ _ _ _ _ _ _ _
  words_last words None (Some r') = last-words words u _ _ _ _ _ _ _ _
  words_last words (Some r) None = last-words words u _ _ _ _ _ _ _ _
  words_last words (Some r) (Some r') = last-words words u _ _ _ _ _ _ _ _

-- ---- below and over a limit

module _ (limit : ℕ) (opened words : List ℕ) (tag : ℕ) where
  pub below_in : tag < limit → state_below limit opened words tag ≡ record_at opened words tag
  unfolding state_below
  below_in h = rw (lt-ltb tag limit h)

  pub below-over : limit ≤ tag → state_below limit opened words tag ≡ None
  unfolding state_below
  below-over h = rw (le-ltb tag limit h)

  pub below_free : record_at opened words tag ≡ None → state_below limit opened words tag ≡ None
  unfolding state_below
  below_free e = rw e (go (ltb tag limit))
    where
      go : (b : Bool) → pick {A = Option Read} b None None ≡ None
      go true = refl
      go false = refl

  pub below-fits : FitsIn (state_below limit opened words tag)
  unfolding state_below
  below-fits = go (ltb tag limit)
    where
      go : (b : Bool) → FitsIn (pick b (record_at opened words tag) None)
      go true = record-fits opened words tag
      go false = free-fits

  pub below_other : (x : Option Read) (u : ℕ) → (u ≡ tag → ⊥) → state_below limit (opened_with opened tag x) (words_with words tag x) u ≡ state_below limit opened words u
  unfolding state_below
  below_other x u n = rw (record-other opened words tag x u n)
