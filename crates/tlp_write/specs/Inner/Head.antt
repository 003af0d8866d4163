-- For the contract of write_head, on which the writer of records builds, and of what writes a head: what writing needs
-- to know of a packet beside its payload, the header in words. Of a packet's own head it is what specs/Write says
-- (IsHead; proofs/WriteLaws).
use Rattle.std.specs.Prelude.{ℕ, ◌+◌, ◌*◌, ◌≡◌, not, List, [], ◌∷◌, ◌++◌, eqb, ltb, length, take, Result}
use Rattle.bits.specs.Choice.{pick, flag}
use Rattle.bits.specs.Field.{field, low}
use Rattle.bits.specs.Word.{bytes}
use Rattle.tlp.specs.Rows.{Row, row, first}
use Rattle.tlp.specs.Refusals.{answered, checked, number_in}
use Rattle.tlp.specs.PacketTypes.{first_byte, header_dw, family_of}
use Rattle.tlp.specs.Packets.{type_of, access_of}
use Rattle.tlp.specs.Sizes.{data_bytes, digest_bytes}
use Rattle.tlp.specs.Contents.{fault_rows}
use Rattle.tlp.specs.declared.packet.Packet.{Packet}
use Rattle.tlp.specs.declared.refusal.Refusal.{Refusal}
use Rattle.tlp_write.specs.Layout.{routing_in, own_bytes}
use Rattle.tlp_write.specs.Write.{out_after}
use Rattle.tlp_write.specs.Inner.Padded.{padded}
use Rattle.tlp_write.specs.declared.words.Words.{Words}
use Rattle.tlp_write.specs.declared.head.Head.{Head}

-- bytes 4 to 15
abbrev pub word_bytes : Words → List ℕ
word_bytes w = bytes 4 w.second ++ bytes 8 w.tail

-- bytes 0 to 3
abbrev pub head_front : Head → List ℕ
head_front h =
    (first_byte h.packet_type + low h.routing 3)
    ∷ (low h.traffic_class 3 * 16 + field h.attributes 2 1 * 4)
    ∷ (flag h.has_digest * 128 + flag h.poisoned * 64 + low h.attributes 2 * 16 + field h.length 8 2)
    ∷ low h.length 8
    ∷ []

-- the header: sixteen bytes for a type of four doublewords, else twelve
abbrev pub head_size : Head → ℕ
head_size h = pick (eqb (header_dw h.packet_type) 4) 16 12

abbrev pub head_bytes : Head → List ℕ
head_bytes h = take (head_size h) (head_front h ++ word_bytes h.words)

abbrev pub head_digest : Head → List ℕ
head_digest h = pick h.has_digest (bytes 4 h.digest) []

abbrev pub data_size : Head → ℕ
data_size h = data_bytes h.packet_type h.length

abbrev pub whole_size : Head → ℕ
whole_size h = head_size h + data_size h + digest_bytes h.has_digest

-- a head's fault: the numbers of the rows 6 to 8 alone are handed on
abbrev pub listed_fault : ℕ → Result Unit Refusal
listed_fault n = checked (pick (ltb n 6) 0 (pick (ltb 8 n) 0 n))

-- ---- with a fault that is known: the rows 3, 5, the fault and 12, for a payload of n bytes and an output of room bytes

abbrev pub judged_rows : ℕ → Head → Result Unit Refusal → ℕ → ℕ → List Row
judged_rows mps h fault n room =
    row 3 (not (eqb n (data_size h)))
    ∷ row 5 (ltb mps (data_size h))
    ∷ row (number_in fault) (not (eqb (number_in fault) 0))
    ∷ row 12 (ltb room (whole_size h))
    ∷ []

unfoldable pub judged_answer : ℕ → Head → Result Unit Refusal → ℕ → ℕ → Result ℕ Refusal
judged_answer mps h fault n room = answered (first (judged_rows mps h fault n room)) (whole_size h)

unfoldable pub judged_out : ℕ → Head → Result Unit Refusal → List ℕ → List ℕ → List ℕ
judged_out mps h fault payload out =
    out_after (judged_answer mps h fault (length payload) (length out)) (head_bytes h ++ (payload ++ head_digest h)) out

-- ---- of any head, with the fault that it tells

unfoldable pub head_answer : ℕ → Head → ℕ → ℕ → Result ℕ Refusal
head_answer mps h n room = judged_answer mps h (listed_fault h.fault) n room

unfoldable pub head_out : ℕ → Head → List ℕ → List ℕ → List ℕ
head_out mps h payload out = judged_out mps h (listed_fault h.fault) payload out

-- h is the head of the packet p
pub record IsHead (h : Head) (p : Packet) : Type 0 where
  pub type_is : h.packet_type ≡ type_of p
  pub routing_is : h.routing ≡ routing_in p.route p.kind
  pub fault_is : h.fault ≡ first (fault_rows (family_of (type_of p)) (access_of p) p.traffic_class p.attributes 0)
  pub words_are : word_bytes h.words ≡ padded 12 (own_bytes p.route p.kind)
  pub class_is : h.traffic_class ≡ p.traffic_class
  pub attributes_are : h.attributes ≡ p.attributes
  pub poisoned_is : h.poisoned ≡ p.poisoned
  pub digest_told : h.has_digest ≡ p.has_digest
  pub digest_is : h.digest ≡ p.digest
  pub length_is : h.length ≡ (access_of p).length
