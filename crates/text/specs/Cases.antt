-- Worked cases of the definitions, computed; each list of bytes has its text above it. No contract cites them.
use Rattle.std.specs.Prelude.{◌≡◌, ℕ, List, [], ◌∷◌, map, refl, Some, None}
use Rattle.bits.specs.Put.{put}
use Rattle.text.specs.Laid.{laid, after}
use Rattle.text.specs.Buffer.{moved_to_front}
use Rattle.text.specs.Digit.{hex_value, hex_digit, all_digits}
use Rattle.text.specs.Number.{value_from, plain, plainly, empty, number_in, digits, count_to}
use Rattle.text.specs.Hex.{hex_number, hex_plain, hex_plain_text, pairs, bytes_spelled, spelled_answer, spelled_over, front_answer, front_over, hex_text}
use Rattle.text.specs.Decimal.{decimal_number, decimal_text}
use Rattle.text.specs.Words.{word_length, word_end, begins_with, starts_with, value_at}

-- / 0 9 : @ A F ` a f g and a space
pub letters-valued : map hex_value (47 ∷ 48 ∷ 57 ∷ 58 ∷ 64 ∷ 65 ∷ 70 ∷ 96 ∷ 97 ∷ 102 ∷ 103 ∷ 32 ∷ []) ≡ 16 ∷ 0 ∷ 9 ∷ 16 ∷ 16 ∷ 16 ∷ 16 ∷ 16 ∷ 10 ∷ 15 ∷ 16 ∷ 16 ∷ []
unfolding hex_value
letters-valued = refl

-- 0 9 a f
pub values-lettered : map hex_digit (0 ∷ 9 ∷ 10 ∷ 15 ∷ []) ≡ 48 ∷ 57 ∷ 97 ∷ 102 ∷ []
unfolding hex_digit
values-lettered = refl

-- `1f20`, `0100`, `0`, `1F20`, nothing, sixteen f, seventeen 0
pub hex-read : map hex_number
    ((49 ∷ 102 ∷ 50 ∷ 48 ∷ [])
    ∷ (48 ∷ 49 ∷ 48 ∷ 48 ∷ [])
    ∷ (48 ∷ [])
    ∷ (49 ∷ 70 ∷ 50 ∷ 48 ∷ [])
    ∷ ([])
    ∷ (102 ∷ 102 ∷ 102 ∷ 102 ∷ 102 ∷ 102 ∷ 102 ∷ 102 ∷ 102 ∷ 102 ∷ 102 ∷ 102 ∷ 102 ∷ 102 ∷ 102 ∷ 102 ∷ [])
    ∷ (48 ∷ 48 ∷ 48 ∷ 48 ∷ 48 ∷ 48 ∷ 48 ∷ 48 ∷ 48 ∷ 48 ∷ 48 ∷ 48 ∷ 48 ∷ 48 ∷ 48 ∷ 48 ∷ 48 ∷ [])
    ∷ [])
    ≡ Some 7968
    ∷ Some 256
    ∷ Some 0
    ∷ None
    ∷ None
    ∷ Some 18446744073709551615
    ∷ None
    ∷ []
unfolding hex_number empty all_digits hex_value value_from
hex-read = refl

-- `1f20`, `0100`, `0`, `00`, nothing without leading zeros
pub hex-plain-read : map hex_plain
    ((49 ∷ 102 ∷ 50 ∷ 48 ∷ [])
    ∷ (48 ∷ 49 ∷ 48 ∷ 48 ∷ [])
    ∷ (48 ∷ [])
    ∷ (48 ∷ 48 ∷ [])
    ∷ ([])
    ∷ [])
    ≡ Some 7968
    ∷ None
    ∷ Some 0
    ∷ None
    ∷ None
    ∷ []
unfolding plainly plain hex_number empty all_digits hex_value value_from
hex-plain-read = refl

-- `0`, `15`, `4294967295`, `4294967296`, `007`, `1a`, nothing up to 4294967295
pub decimal-read : map (decimal_number 4294967295)
    ((48 ∷ [])
    ∷ (49 ∷ 53 ∷ [])
    ∷ (52 ∷ 50 ∷ 57 ∷ 52 ∷ 57 ∷ 54 ∷ 55 ∷ 50 ∷ 57 ∷ 53 ∷ [])
    ∷ (52 ∷ 50 ∷ 57 ∷ 52 ∷ 57 ∷ 54 ∷ 55 ∷ 50 ∷ 57 ∷ 54 ∷ [])
    ∷ (48 ∷ 48 ∷ 55 ∷ [])
    ∷ (49 ∷ 97 ∷ [])
    ∷ ([])
    ∷ [])
    ≡ Some 0
    ∷ Some 15
    ∷ Some 4294967295
    ∷ None
    ∷ None
    ∷ None
    ∷ None
    ∷ []
unfolding plainly plain number_in empty all_digits hex_value value_from
decimal-read = refl

-- `0`, `9`, `10`, `4294967295`
pub decimal-printed : map decimal_text (0 ∷ 9 ∷ 10 ∷ 4294967295 ∷ [])
    ≡ (48 ∷ [])
    ∷ (57 ∷ [])
    ∷ (49 ∷ 48 ∷ [])
    ∷ (52 ∷ 50 ∷ 57 ∷ 52 ∷ 57 ∷ 54 ∷ 55 ∷ 50 ∷ 57 ∷ 53 ∷ [])
    ∷ []
unfolding digits count_to hex_digit
decimal-printed = refl

-- `0`, `1f20`
pub hex-printed : map hex_plain_text (0 ∷ 7968 ∷ []) ≡ (48 ∷ []) ∷ (49 ∷ 102 ∷ 50 ∷ 48 ∷ []) ∷ []
unfolding digits count_to hex_digit
hex-printed = refl

-- `0100`
pub four-printed : digits 16 4 256 ≡ 48 ∷ 49 ∷ 48 ∷ 48 ∷ []
unfolding digits hex_digit
four-printed = refl

-- nothing, `4a00`, `4a0`, `4A00`
pub bytes_read : map bytes_spelled
    (([])
    ∷ (52 ∷ 97 ∷ 48 ∷ 48 ∷ [])
    ∷ (52 ∷ 97 ∷ 48 ∷ [])
    ∷ (52 ∷ 65 ∷ 48 ∷ 48 ∷ [])
    ∷ [])
    ≡ Some []
    ∷ Some (74 ∷ 0 ∷ [])
    ∷ None
    ∷ None
    ∷ []
unfolding bytes_spelled pairs all_digits hex_value
bytes_read = refl

-- `4a00`
pub bytes-printed : hex_text (74 ∷ 0 ∷ []) ≡ 52 ∷ 97 ∷ 48 ∷ 48 ∷ []
unfolding hex_text hex_digit
bytes-printed = refl

-- two bytes over three, and over one
pub bytes-over : spelled_over (Some (74 ∷ 0 ∷ [])) (1 ∷ 2 ∷ 3 ∷ []) ≡ 74 ∷ 0 ∷ 3 ∷ []
unfolding spelled_over laid put
bytes-over = refl

pub bytes-answered : map (spelled_answer (Some (74 ∷ 0 ∷ []))) ((1 ∷ 2 ∷ 3 ∷ []) ∷ (1 ∷ []) ∷ []) ≡ Some 2 ∷ None ∷ []
unfolding spelled_answer
bytes-answered = refl

pub bytes-refused : spelled_over (Some (74 ∷ 0 ∷ [])) (1 ∷ []) ≡ 1 ∷ []
unfolding spelled_over laid
bytes-refused = refl

-- the first byte of two, none and all of them, over one
pub front-over : map (λ (most : ℕ). front_over most (Some (74 ∷ 0 ∷ [])) (1 ∷ [])) (1 ∷ 0 ∷ 2 ∷ []) ≡ (74 ∷ []) ∷ (1 ∷ []) ∷ (1 ∷ []) ∷ []
unfolding front_over laid put
front-over = refl

pub front-answered : map (λ (most : ℕ). front_answer most (Some (74 ∷ 0 ∷ [])) (1 ∷ [])) (1 ∷ 0 ∷ 2 ∷ []) ≡ Some 2 ∷ Some 2 ∷ None ∷ []
unfolding front_answer
front-answered = refl

-- one byte at the indices 2 and 3 of three bytes
pub text-laid : map (λ (at : ℕ). laid at (7 ∷ []) (1 ∷ 2 ∷ 3 ∷ [])) (2 ∷ 3 ∷ []) ≡ (1 ∷ 2 ∷ 7 ∷ []) ∷ (1 ∷ 2 ∷ 3 ∷ []) ∷ []
unfolding laid put
text-laid = refl

pub text-after : map (λ (at : ℕ). after at (7 ∷ []) (1 ∷ 2 ∷ 3 ∷ [])) (1 ∷ 2 ∷ 3 ∷ []) ≡ 2 ∷ 3 ∷ 3 ∷ []
unfolding after
text-after = refl

-- from index 1 on: up to index 4, up to past the end, and backwards
pub front-moved : map (λ (to : ℕ). moved_to_front 1 to (1 ∷ 2 ∷ 3 ∷ 4 ∷ 5 ∷ [])) (4 ∷ 9 ∷ 0 ∷ []) ≡ (2 ∷ 3 ∷ 4 ∷ 4 ∷ 5 ∷ []) ∷ (2 ∷ 3 ∷ 4 ∷ 5 ∷ 5 ∷ []) ∷ (1 ∷ 2 ∷ 3 ∷ 4 ∷ 5 ∷ []) ∷ []
unfolding moved_to_front put
front-moved = refl

-- `at=1 dir=tx tlp=`
abbrev line : List ℕ
line = 97 ∷ 116 ∷ 61 ∷ 49 ∷ 32 ∷ 100 ∷ 105 ∷ 114 ∷ 61 ∷ 116 ∷ 120 ∷ 32 ∷ 116 ∷ 108 ∷ 112 ∷ 61 ∷ []

-- the ends of words from the indices 0, 4, 5, 16 and 99 on
pub words-end : map (word_end line) (0 ∷ 4 ∷ 5 ∷ 16 ∷ 99 ∷ []) ≡ 4 ∷ 4 ∷ 11 ∷ 16 ∷ 16 ∷ []
unfolding word_end word_length
words-end = refl

-- ` dir=` at the indices 4 and 0, and past the end
pub dir-found : map (λ (at : ℕ). value_at line at (32 ∷ 100 ∷ 105 ∷ 114 ∷ 61 ∷ [])) (4 ∷ 0 ∷ 17 ∷ []) ≡ Some (record { from = 9; to = 11 }) ∷ None ∷ None ∷ []
unfolding value_at starts_with begins_with word_end word_length
dir-found = refl

-- `tlp=` with nothing after it
pub tlp-found : value_at line 12 (116 ∷ 108 ∷ 112 ∷ 61 ∷ []) ≡ Some (record { from = 16; to = 16 })
unfolding value_at starts_with begins_with word_end word_length
tlp-found = refl
