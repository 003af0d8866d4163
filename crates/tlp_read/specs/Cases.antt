-- Document 01's own cases about packets, computed from the definitions: the packets of the capture that it prints whole
-- (MPS 128, MRRS 512, RCB 64), and fields in which 0 is the largest. (P8 to P11 are in reads_demands.)
-- No promise cites this file.
use Rattle.std.specs.Prelude.{ℕ, ◌≡◌, refl, Bool, true, ◌&&◌, List, [], ◌∷◌, eqb}
use Rattle.byte_enables.specs.Enables.{enables_allowed}
use Rattle.tlp.specs.Rows.{first}
use Rattle.tlp.specs.Settings.{settings_listed}
use Rattle.tlp.specs.PacketTypes.{type_at}
use Rattle.tlp.specs.Packets.{access_of}
use Rattle.tlp.specs.Sizes.{or_most, length_at, digest_at, data_bytes, digest_bytes, bytes_called}
use Rattle.tlp.specs.Contents.{not_plain, plain_bad, enables_bad, page_bad}
use Rattle.tlp.specs.declared.settings.Settings.{Settings}
use Rattle.tlp_read.specs.Fields.{attributes_at, digest_word, request_at, config_at, message_at, completion_at, implicit_at, message_route_at, route_at, kind_at, packet_at}
use Rattle.tlp_read.specs.Read.{hint_or_address_type_set, routing_bad, form_bad, read_packet}
use Rattle.tlp.specs.Refusals.{refusal, number_in}

abbrev pub settings : Settings
settings = record { mps = 128; mrrs = 512; rcb = 64 }

-- a packet's bytes and the number that reading them gives
pub record Case : Type 0 where
  pub bytes : List ℕ
  pub number : ℕ

abbrev pub gives : ℕ → List ℕ → Case
gives n packet = record { bytes = packet; number = n }

abbrev pub cases : List Case
cases =
    gives 0 (0x00 ∷ 0 ∷ 0 ∷ 1 ∷ 0x01 ∷ 0 ∷ 5 ∷ 0 ∷ 0 ∷ 0 ∷ 0x10 ∷ 0 ∷ [])
    ∷ gives 0 (0x4A ∷ 0 ∷ 0 ∷ 1 ∷ 0x02 ∷ 0 ∷ 0 ∷ 1 ∷ 0x01 ∷ 0 ∷ 5 ∷ 0 ∷ 0 ∷ 0 ∷ 0 ∷ 0 ∷ [])
    ∷ gives 7 (0x00 ∷ 0 ∷ 0 ∷ 2 ∷ 0x01 ∷ 0 ∷ 5 ∷ 0 ∷ 0 ∷ 0 ∷ 0x10 ∷ 0 ∷ [])
    ∷ gives 1 (0x00 ∷ 0 ∷ 0 ∷ 1 ∷ [])
    ∷ []

abbrev pub holds : List Case → Bool
holds [] = true
holds (c ∷ cs) = eqb (number_in (read_packet settings c.bytes)) c.number && holds cs

pub cases-hold : holds cases ≡ true
unfolding read_packet refusal first settings_listed type_at access_of enables_allowed or_most length_at digest_at data_bytes digest_bytes bytes_called not_plain plain_bad enables_bad page_bad attributes_at digest_word request_at config_at message_at completion_at implicit_at message_route_at route_at kind_at packet_at hint_or_address_type_set routing_bad form_bad
cases-hold = refl

-- "Length 0 means 1024 DW."; Byte Count: "0 meaning 4096"
pub largest : (length_at (0 ∷ 0 ∷ 0 ∷ 0 ∷ []) ≡ 1024) × ((completion_at (0x0A ∷ 0 ∷ 0 ∷ 0 ∷ 0 ∷ 0 ∷ 0 ∷ 0 ∷ 0 ∷ 0 ∷ 0 ∷ 0 ∷ [])).byte_count ≡ 4096)
unfolding length_at completion_at or_most
largest = (refl, refl)
