-- Numbers of k bytes, the high byte first.
use mathlib.Core.Path.{◌≡◌, refl, sym, ap, ◌∙◌}
use mathlib.Core.List.{List, [], ◌∷◌, ◌++◌}
use Prim.Native.Nat.{ℕ, zero, suc, ◌+◌, ◌*◌, ◌/◌, ◌%◌, ◌^◌, ◌≤◌, ◌<◌, suc-le-suc}
use native.Mathlib.Nat.{add_assoc, zero-add, add-zero, zero-mul, add-mul, mul_assoc, mul_comm, mod-lt, mod-eq_of_lt, mod-one, div-one, zero-lt-suc, one-le-pow, pow-suc, mul-add-div_right, mul-add-mod_self_right, suc-add, add-suc, div-add-mod', div-div-eq-div-mul}
use native.Mathlib.Numerals.{add-one, one-add}
use native.Mathlib.Omega.{arith}
use lib.Arith.{digits_lt, digits_div, mod-mul}
use lib.Pow.{pow-add}
use lib.ListN.{length, get_or, take, drop, length-append}
use lib.Seq.{get_or-append-add, get_or_at, get_or-drop, drop-cons, take_all}
use borrow.Author.Tests.{le-leb, lt-leb}
use Rattle.bits.specs.Word.{word, whole_word, bytes, Bytes}

power : (k : ℕ) → 0 < 256 ^ k
power k = one-le-pow k 256 (zero-lt-suc 255)

-- ---- reading

pub word_split : (j k : ℕ) (src : List ℕ) (i : ℕ) → word (j + k) src i ≡ word j src i * 256 ^ k + word k src (i + j)
word_split zero k src i = simp (zero-add, add-zero, zero-mul)
word_split (suc j) k src i =
    simp (suc-add, pow-add, word_split j k src (i + 1), add-mul, add_assoc, mul_assoc, one-add)

pub word-shift : (pre src : List ℕ) (k i : ℕ) → word k (pre ++ src) (length pre + i) ≡ word k src i
word-shift pre src zero i = refl
word-shift pre src (suc k) i = rw (get_or-append-add pre src i 0, add_assoc, word-shift pre src k (i + 1))

-- ---- writing

pub length-bytes : (k x : ℕ) → length (bytes k x) ≡ k
length-bytes zero x = refl
length-bytes (suc k) x = ap suc (length-bytes k x)

pub bytes_small : (k x i : ℕ) → get_or (bytes k x) i 0 < 256
bytes_small zero x i = zero-lt-suc 255
bytes_small (suc k) x zero = mod-lt (x / 256 ^ k) (zero-lt-suc 255)
bytes_small (suc k) x (suc i) = bytes_small k x i

-- what stands above the k bytes does not show in them
bytes-above : (k j h x : ℕ) → bytes k (h * 256 ^ (k + j) + x) ≡ bytes k x
bytes-above zero j h x = refl
bytes-above (suc k) j h x =
    let e : h * 256 ^ (suc k + j) + x ≡ h * 256 ^ j * 256 * 256 ^ k + x = simp (pow-add, pow-suc, mul_assoc, mul_comm) in
    let f : (h * 256 ^ (suc k + j) + x) / 256 ^ k % 256 ≡ x / 256 ^ k % 256 = rw (e, mul-add-div_right (power k)) (mul-add-mod_self_right (h * 256 ^ j) 256 _) in
    rw (f, suc-add, ← add-suc) (ap (λ (l : List ℕ). x / 256 ^ k % 256 ∷ l) (bytes-above k (suc j) h x))

pub bytes_low : (k x : ℕ) → bytes k (x % 256 ^ k) ≡ bytes k x
bytes_low k x =
    let e : x / 256 ^ k * 256 ^ (k + 0) + x % 256 ^ k ≡ x = rw (add-zero k) (div-add-mod' x (256 ^ k)) in
    sym (bytes-above k 0 (x / 256 ^ k) (x % 256 ^ k)) ∙ ap (λ (n : ℕ). bytes k n) e

-- the bytes of two numbers, one above the other
pub bytes-join : (j k a b : ℕ) → b < 256 ^ k → bytes (j + k) (a * 256 ^ k + b) ≡ bytes j a ++ bytes k b
bytes-join zero k a b h = rw zero-add (rw add-zero at (bytes-above k 0 a b))
bytes-join (suc j) k a b h =
    let e : (a * 256 ^ k + b) / 256 ^ (j + k) ≡ a / 256 ^ j = rw (pow-add, mul_comm (256 ^ j) (256 ^ k), ← div-div-eq-div-mul, digits_div a h) in
    rw (suc-add, e) (ap (λ (l : List ℕ). a / 256 ^ j % 256 ∷ l) (bytes-join j k a b h))

-- two bytes as one number
pub pair_lt : (a b : ℕ) → a < 256 → b < 256 → a * 256 + b < 65536
pair_lt a b h k = omega arith

pub bytes_pair : (a b : ℕ) → a < 256 → b < 256 → bytes 2 (a * 256 + b) ≡ (a ∷ b ∷ [])
bytes_pair a b h k = bytes-join 1 1 a b k ∙ rw (div-one a, div-one b, mod-eq_of_lt h, mod-eq_of_lt k)

-- ---- there and back

word_low : (k x : ℕ) (rest : List ℕ) → word k (bytes k x ++ rest) 0 ≡ x % 256 ^ k
word_low zero x rest = sym (mod-one x)
word_low (suc k) x rest =
    rw (word-shift (x / 256 ^ k % 256 ∷ []) (bytes k x ++ rest) k 0, word_low k x rest, pow-suc 256 k, mul_comm (256 ^ k) 256)
    (sym (mod-mul x (zero-lt-suc 255) (power k)))

pub word_bytes : (k x : ℕ) (rest : List ℕ) → x < 256 ^ k → word k (bytes k x ++ rest) 0 ≡ x
word_bytes k x rest h = word_low k x rest ∙ mod-eq_of_lt h

-- every element is a byte, by the places that there are
abbrev pub AllBytes : List ℕ → Type 0
AllBytes src = (i : ℕ) → i < length src → get_or src i 0 < 256

get_d-small : (src : List ℕ) → AllBytes src → (i : ℕ) → get_or src i 0 < 256
get_d-small [] small i = zero-lt-suc 255
get_d-small (x ∷ src) small zero = small zero (zero-lt-suc _)
get_d-small (x ∷ src) small (suc i) = get_d-small src (λ k h. small (suc k) (suc-le-suc h)) i

pub word_lt : (k : ℕ) (src : List ℕ) (i : ℕ) → AllBytes src → word k src i < 256 ^ k
word_lt zero src i small = zero-lt-suc 0
word_lt (suc k) src i small = rw (pow-suc 256 k, mul_comm (256 ^ k) 256) (digits_lt (get_d-small src small i) (word_lt k src (i + 1) small))

pub bytes-word-at : (k : ℕ) (src : List ℕ) (i : ℕ) → i + k ≤ length src → AllBytes src → bytes k (word k src i) ≡ take k (drop i src)
bytes-word-at zero src i h small = refl
bytes-word-at (suc k) src i h small =
    let b : get_or src i 0 < 256 = get_d-small src small i in
    let t : take (suc k) (drop i src) ≡ get_or src i 0 ∷ take k (drop (i + 1) src) = rw (drop-cons src i 0 (omega arith), add-one i) in
    let u : bytes k (get_or src i 0 * 256 ^ k + word k src (i + 1)) ≡ take k (drop (i + 1) src) = rw add-zero at (bytes-above k 0 (get_or src i 0) (word k src (i + 1))) ∙ bytes-word-at k src (i + 1) (omega arith) small in
    rw (t, digits_div (get_or src i 0) (word_lt k src (i + 1) small), mod-eq_of_lt b, u)

pub bytes_word : (k : ℕ) (src : List ℕ) → k ≤ length src → AllBytes src → bytes k (word k src 0) ≡ take k src
bytes_word k src h small = bytes-word-at k src 0 (omega arith) small

-- a number all of whose bytes are there, or not
module _ (k : ℕ) (src : List ℕ) (i : ℕ) where
  pub whole-there : i + k ≤ length src → (r : ℕ) → r ≡ word k src i → (r ≡ whole_word k src i) × (i + k ≤ length src → r ≡ word k src i)
  whole-there h r e = (rw (le-leb (i + k) (length src) h) e, λ _. e)

  pub whole-missing : length src < i + k → (0 ≡ whole_word k src i) × (i + k ≤ length src → 0 ≡ word k src i)
  whole-missing h = (rw (lt-leb (i + k) (length src) h), λ l. absurd (omega arith))

-- ---- lists of bytes

pub bytes_drop : (xs : List ℕ) → Bytes xs → (n : ℕ) → Bytes (drop n xs)
bytes_drop xs small n i = rw (get_or-drop n xs i 0) (small (n + i))

small-snoc : (xs : List ℕ) (c : ℕ) → Bytes xs → c < 256 → Bytes (xs ++ (c ∷ []))
small-snoc [] c small h zero = h
small-snoc [] c small h (suc i) = zero-lt-suc 255
small-snoc (x ∷ xs) c small h zero = small zero
small-snoc (x ∷ xs) c small h (suc i) = small-snoc xs c (λ j. small (suc j)) h i

-- a number with one byte more
pub bytes-snoc : (k x c : ℕ) → x < 256 ^ k → c < 256 → bytes (k + 1) (x * 256 + c) ≡ bytes k x ++ (c ∷ [])
bytes-snoc k x c hx hc =
    let l = bytes k x ++ (c ∷ []) in
    let n : length l ≡ k + 1 = simp (length-append, length-bytes) in
    let last : get_or l (0 + k) 0 ≡ c = get_or_at (bytes k x) c [] 0 (0 + k) (omega (arith, length-bytes k x)) in
    let e : word (k + 1) l 0 ≡ x * 256 + c = omega (arith, word_split k 1 l 0, word_bytes k x (c ∷ []) hx) in
    rw (← e) (bytes_word (k + 1) l (omega arith) (λ i h. small-snoc (bytes k x) c (bytes_small k x) hc i) ∙ take_all (k + 1) l (omega arith))
