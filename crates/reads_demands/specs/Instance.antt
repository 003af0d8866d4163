-- Delivery, worked twice, so that its premises are seen to hold together: P2's read taken in 96+128+32 bytes, and a
-- read with disabled bytes at both ends, taken in 8+64+8 bytes while a read of another tag is opened and taken. The
-- theorem is a `WorkedHold`, proved in proofs/Instance; no promise cites this file.
use Rattle.std.specs.Prelude.{ℕ, ◌*◌, ◌/◌, ◌%◌, ◌≡◌, true, List, [], ◌∷◌, ◌++◌, length, replicate, take, drop, Ok, Err}
use Rattle.tlp.specs.declared.refusal.Refusal.TheVariants.{TagNotOpen, NotAContinuation}
use Rattle.tlp.specs.Settings.{settings_listed}
use Rattle.reads_rules.specs.declared.request.ReadRequest.{ReadRequest}
use Rattle.reads_rules.specs.declared.origin.Origin.{Origin}
use Rattle.reads.specs.declared.table.Table.{Table}
use Rattle.reads_answers.specs.declared.TakeAnswer.TheVariants.{More, Done, Refused}
use Rattle.reads.specs.Tables.{new_table}
use Rattle.reads.specs.Answers.{open_number}
use Rattle.reads.specs.OpenCall.{open_call}
use Rattle.reads.specs.TakeCall.{take_store}
use Rattle.cuttings.specs.Lawful.{lawful_cutting}
use Rattle.reads_demands.specs.Edges.{reading, long_read, origin_with}
use Rattle.reads_demands.specs.History.{Call, opening, taking, withdrawing, asking}
use Rattle.reads_demands.specs.History.{History, open_event, take_event, withdraw_event, owed_event}
use Rattle.reads_demands.specs.Demand3.{next, run, answers, reached}
use Rattle.reads_demands.specs.Demand3.{Item, other, piece, calls, pieces, Undisturbed, SameStore}

-- a list of calls: some before, the opening of a read, the stretch to its last piece, that piece, and some afterwards;
-- with what the calls answer, the newest first, and the bytes of the window after the last piece
pub record Worked : Type 0 where
  pub origin : Origin
  pub before : List Call
  pub read : ReadRequest
  pub tag : ℕ
  pub store₀ : List ℕ
  pub out : List ℕ
  pub between : List Item
  pub last_piece : List ℕ
  pub store : List ℕ
  pub afterwards : List Call
  pub given : History
  pub window : List ℕ

abbrev pub list : Worked → List Call
list w =
    w.before
    ++ (opening w.read w.tag w.store₀ w.out
    ∷ (calls w.between ++ (taking w.last_piece w.store ∷ w.afterwards)))

-- the table after the opening
abbrev pub after_opening : Worked → Table
after_opening w = next (reached w.origin w.before) (opening w.read w.tag w.store₀ w.out)

-- the bytes of a read's window
abbrev pub window_of : ReadRequest → List ℕ → List ℕ
window_of q store = take (4 * q.access.length) (drop q.start store)

-- every premise of `delivery` in Demand3, the answers, and the window as the last piece leaves it
pub record Premises (w : Worked) : Type 0 where
  pub listed : settings_listed w.origin.settings ≡ true
  pub accepted : open_number (open_call (reached w.origin w.before) w.read w.tag (length w.store₀)
      (length w.out)).answer ≡ 0
  pub lawful : lawful_cutting w.origin w.tag w.read (pieces w.between ++ (w.last_piece ∷ [])) ≡ true
  pub undisturbed : Undisturbed w.tag (after_opening w) w.between
  pub same : SameStore w.read (after_opening w) w.store₀
      (calls w.between ++ (taking w.last_piece w.store ∷ []))
  pub answered : answers (new_table w.origin) [] (list w) ≡ w.given
  pub delivers : window_of w.read (take_store (run (after_opening w) (calls w.between)) w.last_piece w.store)
      ≡ w.window

-- a store: before the window four bytes, which others may write; then the rest
abbrev pub store_of : ℕ → List ℕ → List ℕ
store_of v rest = replicate 4 v ++ rest

abbrev pub out : List ℕ
out = replicate 12 0

-- a CplD as it arrives, from 0200 to 0100: its tag, length in doublewords below 256, Byte Count, Lower Address and data
abbrev pub completion : ℕ → ℕ → ℕ → ℕ → List ℕ → List ℕ
completion tag n count lower payload =
    0x4A ∷ 0x00 ∷ 0x00 ∷ n
    ∷ 0x02 ∷ 0x00 ∷ (count / 256) ∷ (count % 256)
    ∷ 0x01 ∷ 0x00 ∷ tag ∷ lower
    ∷ payload

-- ---- P2's read, with other calls before, between and afterwards

abbrev pub whole_read : ReadRequest
whole_read = record { access = long_read; traffic_class = 0; attributes = 0; start = 4 }

-- a read of one doubleword, whose window touches the other's end
abbrev pub short_read : ReadRequest
short_read = record { access = reading 0x20000 1 0b1111 0b0000; traffic_class = 0; attributes = 0; start = 260 }

-- the pieces of tag 5: 24, 32 and 8 doublewords
abbrev pub piece₁ : List ℕ
piece₁ = completion 5 24 256 32 (replicate 96 1)

abbrev pub piece₂ : List ℕ
piece₂ = completion 5 32 160 0 (replicate 128 2)

abbrev pub piece₃ : List ℕ
piece₃ = completion 5 8 32 0 (replicate 32 3)

-- of a store of 264 bytes the rest: at opening, with one piece and with two
abbrev pub rest₀ : List ℕ
rest₀ = replicate 260 9

abbrev pub rest₁ : List ℕ
rest₁ = replicate 96 1 ++ replicate 164 9

abbrev pub rest₂ : List ℕ
rest₂ = replicate 96 1 ++ (replicate 128 2 ++ replicate 36 9)

abbrev pub whole_worked : Worked
whole_worked = record {
  origin = origin_with 128;
  before = withdrawing 5 ∷ [];
  read = whole_read;
  tag = 5;
  store₀ = store_of 10 rest₀;
  out = out;
  between =
      piece piece₁ (store_of 11 rest₀)
      ∷ other asking
      ∷ other (taking piece₁ (store_of 12 rest₁))
      ∷ other (opening short_read 6 (store_of 13 rest₁) out)
      ∷ piece piece₂ (store_of 14 rest₁)
      ∷ [];
  last_piece = piece₃;
  store = store_of 15 rest₂;
  afterwards = asking ∷ [];
  given =
      owed_event (Ok 1)
      ∷ take_event piece₃ (store_of 15 rest₂) Done
      ∷ take_event piece₂ (store_of 14 rest₁) More
      ∷ open_event short_read 6 (store_of 13 rest₁) out (Ok 12)
      ∷ take_event piece₁ (store_of 12 rest₁) (Refused NotAContinuation)
      ∷ owed_event (Ok 40)
      ∷ take_event piece₁ (store_of 11 rest₀) More
      ∷ open_event whole_read 5 (store_of 10 rest₀) out (Ok 12)
      ∷ withdraw_event 5 (Err TagNotOpen)
      ∷ [];
  window = replicate 96 1 ++ (replicate 128 2 ++ replicate 32 3);
}

-- ---- a read whose first two and last two bytes are disabled; between its pieces a read of tag 6 is opened and taken

abbrev pub trimmed_read : ReadRequest
trimmed_read = record { access = reading 0x10038 20 0b1100 0b0011; traffic_class = 0; attributes = 0; start = 4 }

-- a read of two doublewords, whose window touches the other's end
abbrev pub split_read : ReadRequest
split_read = record { access = reading 0x2003C 2 0b1111 0b1111; traffic_class = 0; attributes = 0; start = 84 }

-- the pieces of tag 5: 2, 16 and 2 doublewords
abbrev pub trimmed₁ : List ℕ
trimmed₁ = completion 5 2 76 58 (replicate 8 1)

abbrev pub trimmed₂ : List ℕ
trimmed₂ = completion 5 16 70 64 (replicate 64 2)

abbrev pub trimmed₃ : List ℕ
trimmed₃ = completion 5 2 6 0 (replicate 8 3)

-- of tag 6: one doubleword each
abbrev pub split₁ : List ℕ
split₁ = completion 6 1 8 60 (replicate 4 4)

abbrev pub split₂ : List ℕ
split₂ = completion 6 1 4 64 (replicate 4 5)

-- of a store of 96 bytes the rest, with so many pieces of tag 5 and of tag 6
abbrev pub rest₀₀ : List ℕ
rest₀₀ = replicate 92 9

abbrev pub rest₁₀ : List ℕ
rest₁₀ = replicate 2 9 ++ (replicate 6 1 ++ replicate 84 9)

abbrev pub rest₁₁ : List ℕ
rest₁₁ = replicate 2 9 ++ (replicate 6 1 ++ (replicate 72 9 ++ (replicate 4 4 ++ replicate 8 9)))

abbrev pub rest₂₁ : List ℕ
rest₂₁ = replicate 2 9 ++ (replicate 6 1 ++ (replicate 64 2 ++ (replicate 8 9 ++ (replicate 4 4 ++ replicate 8 9))))

abbrev pub rest₂₂ : List ℕ
rest₂₂ =
    replicate 2 9
    ++ (replicate 6 1
    ++ (replicate 64 2
    ++ (replicate 8 9
    ++ (replicate 4 4
    ++ (replicate 4 5 ++ replicate 4 9)))))

abbrev pub trimmed_worked : Worked
trimmed_worked = record {
  origin = origin_with 64;
  before = asking ∷ [];
  read = trimmed_read;
  tag = 5;
  store₀ = store_of 10 rest₀₀;
  out = out;
  between =
      piece trimmed₁ (store_of 11 rest₀₀)
      ∷ other (opening split_read 6 (store_of 12 rest₁₀) out)
      ∷ other (taking split₁ (store_of 13 rest₁₀))
      ∷ piece trimmed₂ (store_of 14 rest₁₁)
      ∷ other (taking split₂ (store_of 15 rest₂₁))
      ∷ [];
  last_piece = trimmed₃;
  store = store_of 16 rest₂₂;
  afterwards = asking ∷ [];
  given =
      owed_event (Ok 0)
      ∷ take_event trimmed₃ (store_of 16 rest₂₂) Done
      ∷ take_event split₂ (store_of 15 rest₂₁) Done
      ∷ take_event trimmed₂ (store_of 14 rest₁₁) More
      ∷ take_event split₁ (store_of 13 rest₁₀) More
      ∷ open_event split_read 6 (store_of 12 rest₁₀) out (Ok 12)
      ∷ take_event trimmed₁ (store_of 11 rest₀₀) More
      ∷ open_event trimmed_read 5 (store_of 10 rest₀₀) out (Ok 12)
      ∷ owed_event (Ok 0)
      ∷ [];
  -- the first two and the last two bytes are as at opening
  window = 9 ∷ 9 ∷ (replicate 6 1 ++ (replicate 64 2 ++ (replicate 6 3 ++ (9 ∷ 9 ∷ []))));
}

-- the theorem
pub record WorkedHold : Type 0 where
  pub whole : Premises whole_worked
  pub trimmed : Premises trimmed_worked
