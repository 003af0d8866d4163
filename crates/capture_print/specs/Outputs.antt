-- What is printed: a line for each packet line, and the totals. Document 01 shows it by its whole case, and says that
-- "dw is 0 for Msg and Cpl". What a reader must believe: code_line, answer_line, output_line and
-- totals_line.
use Rattle.std.specs.Prelude.{ℕ, List, ◌++◌, Result, Ok, Err}
use Rattle.text.specs.Decimal.{decimal_text}
use Rattle.tlp.specs.Packets.{type_of, access_of}
use Rattle.tlp.specs.declared.packet.Kind.{Kind}
use Rattle.tlp.specs.declared.packet.Kind.TheVariants.{MemoryRead, MemoryWrite, IoRead, IoWrite, ConfigRead0, ConfigWrite0, ConfigRead1, ConfigWrite1, Message, MessageData, Completion, CompletionData}
use Rattle.tlp.specs.declared.packet.Packet.{Packet}
use Rattle.tlp.specs.Refusals.{number}
use Rattle.tlp.specs.declared.refusal.Refusal.{Refusal}
use Rattle.capture_print.specs.Words.{code_key, accepted_key, tag_key, dw_key, lines_key, refused_key, newline, kind_word}

-- byte 6 of a request, byte 10 of a completion
abbrev pub tag_in : Kind → ℕ
tag_in (MemoryRead q) = q.tag
tag_in (MemoryWrite q) = q.tag
tag_in (IoRead q) = q.tag
tag_in (IoWrite q) = q.tag
tag_in (ConfigRead0 q) = q.request.tag
tag_in (ConfigWrite0 q) = q.request.tag
tag_in (ConfigRead1 q) = q.request.tag
tag_in (ConfigWrite1 q) = q.request.tag
tag_in (Message q) = q.tag
tag_in (MessageData m n) = m.tag
tag_in (Completion q) = q.tag
tag_in (CompletionData c n) = c.tag

-- a number's line
unfoldable pub code_line : ℕ → List ℕ
code_line number = code_key ++ (decimal_text number ++ newline)

-- an accepted packet's line: "dw is 0 for Msg and Cpl"
unfoldable pub packet_output : Packet → List ℕ
packet_output p =
    accepted_key ++ (kind_word (type_of p) ++ (tag_key ++ (decimal_text (tag_in p.kind) ++ (dw_key ++ (decimal_text (access_of p).length ++ newline)))))

-- a packet, or a number that says why there is none, whatever number it is
abbrev pub answer_line : Result Packet ℕ → List ℕ
answer_line (Ok p) = packet_output p
answer_line (Err number) = code_line number

-- an answer with its refusal as the number
abbrev pub numbered : Result Packet Refusal → Result Packet ℕ
numbered (Ok p) = Ok p
numbered (Err r) = Err (number r)

-- what is printed of an answer; "any other bad line .. gives `code=13`"
unfoldable pub output_line : Result Packet Refusal → List ℕ
output_line answer = answer_line (numbered answer)

unfoldable pub totals_line : ℕ → ℕ → List ℕ
totals_line lines refused = lines_key ++ (decimal_text lines ++ (refused_key ++ (decimal_text refused ++ newline)))
