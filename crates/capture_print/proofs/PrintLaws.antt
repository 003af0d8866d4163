-- What is printed: one law for each return, and how long a line of output is.
use Prim.Native.Nat.{ℕ, suc, ◌+◌, ◌/◌, ◌≤◌}
use mathlib.Core.Path.{◌≡◌, ap, ◌∙◌}
use mathlib.Core.List.{List, [], ◌++◌, append_assoc}
use native.Mathlib.Omega.{arith}
use lib.ListN.{length, length-append, length-take, take, drop}
use lib.Seq.{take-append_seam}
use borrow.Author.Tests.{lt-ltb, le-ltb}
use Rattle.text.specs.Number.{count_to, digit_count}
use Rattle.text.proofs.NumberLaws.{length_digits}
use Rattle.text.proofs.RoundTrips.{count-le}
use Rattle.bits.specs.Put.{put}
use Rattle.text.specs.Laid.{laid, after}
use Rattle.text.specs.Decimal.{decimal_text}
use Rattle.text.proofs.LaidLaws.{after-fits, laid-fits, text-most}
use Rattle.byte_enables.specs.declared.Access.{Access}
use Rattle.tlp.specs.Packets.{type_of, access_of}
use Rattle.tlp.specs.declared.packet.Packet.{Packet}
use Rattle.std.specs.Prelude.{Result, Ok, Err}
use Rattle.tlp.specs.Refusals.{number}
use Rattle.tlp.specs.declared.refusal.Refusal.{Refusal}
use Rattle.tlp.specs.declared.refusal.Refusal.TheVariants.{HeaderIncomplete, UnknownKind, SizeMismatch, HintOrAddressType, OverMaxPayload, BadField, BadEnables, Crosses4K, BadRouting, Needless64BitForm, BadSetting, OutputTooShort, BadLine}
use Rattle.tlp.specs.declared.refusal.Refusal.TheVariants.{TagOverLimit, TagOpen, OverMaxReadRequest, BadWindow, WindowOverlap, TagNotOpen, NotACompletion, UnexpectedCompletion, ClassOrAttributesDiffer, BadCompletionStatus, NotAContinuation, BadStore}
use Rattle.tlp.specs.declared.packet_type.PacketType.{PacketType}
use Rattle.tlp.specs.declared.packet_type.PacketType.TheVariants.{MRd32, MRd64, MWr32, MWr64, IORd, IOWr, CfgRd0, CfgWr0, CfgRd1, CfgWr1, Msg, MsgD, Cpl, CplD, Unlisted}
use Rattle.capture_print.specs.Words.{code_key, accepted_key, tag_key, dw_key, lines_key, refused_key, newline, kind_word}
use Rattle.capture_print.specs.Outputs.{tag_in, code_line, packet_output, output_line, totals_line}
use Rattle.capture_print.specs.Inner.Texts.{output_most, number_most}

-- ---- how long a line is at most

pub word-most : (t : PacketType) → length (kind_word t) ≤ 6
word-most MRd32 = omega arith
word-most MRd64 = omega arith
word-most MWr32 = omega arith
word-most MWr64 = omega arith
word-most IORd = omega arith
word-most IOWr = omega arith
word-most CfgRd0 = omega arith
word-most CfgWr0 = omega arith
word-most CfgRd1 = omega arith
word-most CfgWr1 = omega arith
word-most Msg = omega arith
word-most MsgD = omega arith
word-most Cpl = omega arith
word-most CplD = omega arith
word-most Unlisted = omega arith

pub code-size : (n : ℕ) → length (code_line n) ≡ 6 + length (decimal_text n)
unfolding code_line
code-size n = simp length-append (omega arith)

pub code-length : (n : ℕ) → n ≤ 99 → length (code_line n) ≤ 8
code-length n h = omega (arith, code-size n, length_digits 10 (digit_count 10 n) n, count-le 10 (omega arith) 64 1 n (omega arith))

-- a number of two digits
pub code-two : (n : ℕ) → 10 ≤ n → n ≤ 99 → length (code_line n) ≡ 8
unfolding count_to
code-two n l h =
    let e : digit_count 10 n ≡ suc (count_to 10 63 (n / 10)) = rw (le-ltb n 10 l) in
    let f : count_to 10 63 (n / 10) ≡ 1 = rw (lt-ltb (n / 10) 10 (omega arith)) in
    omega (arith, code-size n, length_digits 10 (digit_count 10 n) n)

pub code-11 : length (code_line 11) ≡ 8
code-11 = code-two 11 (omega arith) (omega arith)

pub code-13 : length (code_line 13) ≡ 8
code-13 = code-two 13 (omega arith) (omega arith)

pub packet-most : (p : Packet) → length (packet_output p) ≤ 156
unfolding packet_output
packet-most p = simp length-append (omega (arith, word-most (type_of p), text-most 10 (tag_in p.kind), text-most 10 (access_of p).length))

pub totals-most : (lines refused : ℕ) → length (totals_line lines refused) ≤ 144
unfolding totals_line
totals-most lines refused = simp length-append (omega (arith, text-most 10 lines, text-most 10 refused))

-- ---- a line that is being made

-- the first n bytes of its room, and a text behind them
module _ (n : ℕ) (room text line : List ℕ) (z : length room ≡ output_most) (l : n ≤ output_most) (e : take n room ≡ line) (h : length line + length text ≤ output_most)
    (m : ℕ) (f : m ≡ after n text room) (new : List ℕ) (g : new ≡ laid n text room) where
  line-length : length line ≡ n
  line-length = omega (arith, ap length e, length-take n room)

  fits : n + length text ≤ length room
  fits = omega (arith, line-length)

  after-is : m ≡ length (line ++ text)
  after-is = f ∙ after-fits n text room fits ∙ omega (arith, line-length, length-append line text)

  pub added-size : m ≤ output_most
  added-size = omega (arith, after-is, length-append line text)

  pub added-line : take m new ≡ line ++ text
  unfolding put
  added-line =
      rw (after-is, g, laid-fits n text room fits, e, ← append_assoc line text (drop (n + length text) room)) (take-append_seam (line ++ text) (drop (n + length text) room))

-- a number behind it
pub number_fits : (line : List ℕ) (n : ℕ) → length line + number_most ≤ output_most → length line + length (decimal_text n) ≤ output_most
number_fits line n h = omega (arith, text-most 10 n)

pub number-size : (line : List ℕ) (n : ℕ) → length (line ++ decimal_text n) ≤ length line + number_most
number-size line n = omega (arith, length-append line (decimal_text n), text-most 10 n)

seven : (a b c d e f g : List ℕ) → a ++ b ++ c ++ d ++ e ++ f ++ g ≡ a ++ (b ++ (c ++ (d ++ (e ++ (f ++ g)))))
seven a b c d e f g = simp append_assoc

-- the lines, piece by piece
module _ (start : List ℕ) (s : start ≡ []) where
  pub code-made : (n : ℕ) (a b c : List ℕ) → a ≡ start ++ code_key → b ≡ a ++ decimal_text n → c ≡ b ++ newline → c ≡ code_line n
  unfolding code_line
  code-made n a b c e f g = rw (g, f, e, s) (append_assoc code_key (decimal_text n) newline)

  pub packet-made : (p : Packet) (t : PacketType) (word : List ℕ) (tag : ℕ) (x : Access) (a b c d e f g : List ℕ)
      → t ≡ type_of p → word ≡ kind_word t → tag ≡ tag_in p.kind → x ≡ access_of p → a ≡ start ++ accepted_key → b ≡ a ++ word
      → c ≡ b ++ tag_key → d ≡ c ++ decimal_text tag → e ≡ d ++ dw_key → f ≡ e ++ decimal_text x.length → g ≡ f ++ newline → g ≡ packet_output p
  unfolding packet_output
  packet-made p t word tag x a b c d e f g et ew eg ex h i j k l m n =
      let z : g ≡ accepted_key ++ (word ++ (tag_key ++ (decimal_text tag ++ (dw_key ++ (decimal_text x.length ++ newline))))) = rw (n, m, l, k, j, i, h, s) (seven accepted_key word tag_key (decimal_text tag) dw_key (decimal_text x.length) newline) in
      z ∙ rw (ew, et, eg, ex)

  pub totals-made : (lines refused : ℕ) (a b c d e : List ℕ) → a ≡ start ++ lines_key → b ≡ a ++ decimal_text lines → c ≡ b ++ refused_key → d ≡ c ++ decimal_text refused → e ≡ d ++ newline
      → e ≡ totals_line lines refused
  unfolding totals_line
  totals-made lines refused a b c d e f g h i j = rw (j, i, h, g, f, s) (simp append_assoc)

-- ---- room for what a line gives

number-two : (r : Refusal) → number r ≤ 99
number-two HeaderIncomplete = omega arith
number-two UnknownKind = omega arith
number-two SizeMismatch = omega arith
number-two HintOrAddressType = omega arith
number-two OverMaxPayload = omega arith
number-two BadField = omega arith
number-two BadEnables = omega arith
number-two Crosses4K = omega arith
number-two BadRouting = omega arith
number-two Needless64BitForm = omega arith
number-two BadSetting = omega arith
number-two OutputTooShort = omega arith
number-two BadLine = omega arith
number-two TagOverLimit = omega arith
number-two TagOpen = omega arith
number-two OverMaxReadRequest = omega arith
number-two BadWindow = omega arith
number-two WindowOverlap = omega arith
number-two TagNotOpen = omega arith
number-two NotACompletion = omega arith
number-two UnexpectedCompletion = omega arith
number-two ClassOrAttributesDiffer = omega arith
number-two BadCompletionStatus = omega arith
number-two NotAContinuation = omega arith
number-two BadStore = omega arith

pub output-most : (answer : Result Packet Refusal) → length (output_line answer) ≤ 156
unfolding output_line
output-most (Ok p) = packet-most p
output-most (Err r) = omega (arith, code-length (number r) (number-two r))

pub code-most : (r : Refusal) → length (output_line (Err r)) ≤ 8
unfolding output_line
code-most r = code-length (number r) (number-two r)
