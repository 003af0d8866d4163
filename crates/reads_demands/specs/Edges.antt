-- Document 01, "Edges to prove (P) or run": P1 to P11, one statement over one table, shown from the definitions. To be
-- believed are the table `edges` and what its claims mean, `holds`; that all of them hold is the theorem `EdgesHold`.
use Rattle.std.specs.Prelude.{ℕ, ◌+◌, ◌*◌, ◌≡◌, Bool, true, false, ◌&&◌, List, [], ◌∷◌, map, eqb, Some}
use Rattle.bits.specs.Same.{same_list}
use Rattle.bits.specs.Field.{low}
use Rattle.bits.specs.Word.{byte}
use Rattle.byte_enables.specs.declared.Access.{Access}
use Rattle.byte_enables.specs.Enables.{off, total}
use Rattle.tlp.specs.Rows.{first}
use Rattle.tlp.specs.declared.settings.Settings.{Settings}
use Rattle.tlp.specs.declared.packet.CompletionHeader.{CompletionHeader}
use Rattle.tlp.specs.declared.packet.Route.TheVariants.{Id}
use Rattle.tlp.specs.declared.packet.Kind.TheVariants.{CompletionData}
use Rattle.tlp.specs.declared.packet.Packet.{Packet}
use Rattle.tlp_read.specs.Read.{read_rows}
use Rattle.tlp_write.specs.Layout.{header_of}
use Rattle.tlp_write.specs.Write.{write_rows}
use Rattle.reads_rules.specs.declared.request.ReadRequest.{ReadRequest}
use Rattle.reads_rules.specs.declared.piece.Piece.{Piece}
use Rattle.reads_rules.specs.declared.origin.Origin.{Origin}
use Rattle.reads_rules.specs.Requests.{request_packet, request_rows}
use Rattle.reads_rules.specs.Continuations.{byte_count_at, lower_address_at}
use Rattle.reads_store.specs.Stores.{stored}
use Rattle.reads_answers.specs.Takes.{piece_rows}
use Rattle.cuttings.specs.Rows.{cuttings}

-- what an edge says of its read
pub data Claim : Type 0 where
  -- "the cuttings in bytes", with their pieces' Byte Counts and Lower Addresses: of MPS and RCB, in the order in which
  -- they are listed
  cuttings_are : ℕ → ℕ → List (List ℕ) → Claim
  counts_are : ℕ → ℕ → List (List ℕ) → Claim
  lowers_are : ℕ → ℕ → List (List ℕ) → Claim
  -- the number for a first piece: of RCB, its doublewords, Byte Count and Lower Address; 0 for "legal"
  piece_gives : ℕ → ℕ → ℕ → ℕ → ℕ → Claim
  total_is : ℕ → Claim
  off_is : ℕ → Claim
  -- a payload taken into a store leaves it as it was
  writes_nothing : List ℕ → List ℕ → Claim
  -- the header that open writes, and that of one completion with all of the answer; fields in them
  request_is : List ℕ → Claim
  answer_is : List ℕ → Claim
  length_field_is : ℕ → Claim
  count_field_is : ℕ → Claim
  -- the number for the request, from open, from the writer and from the reader; 0 for "stands"
  request_gives : ℕ → Claim

pub record Edge : Type 0 where
  pub access : Access
  pub claims : List Claim

abbrev pub reading : ℕ → ℕ → ℕ → ℕ → Access
reading address length first last = record { address = address; length = length; first = first; last = last }

-- "A=10020h, L=64, enables all set"
abbrev pub long_read : Access
long_read = reading 0x10020 64 0b1111 0b1111

abbrev pub edges : List Edge
edges =
    -- "P1 A=10020h, L=64, enables all set, RCB 128, MPS 256: the cuttings in bytes are 256, 96+160, 96+128+32, 224+32"
    record {
      access = long_read;
      claims = cuttings_are 256 128 ((256 ∷ []) ∷ (224 ∷ 32 ∷ []) ∷ (96 ∷ 160 ∷ []) ∷ (96 ∷ 128 ∷ 32 ∷ []) ∷ []) ∷ [];
    }
    -- "P2 with MPS 128: only 96+128+32."
    ∷ record { access = long_read; claims = cuttings_are 128 128 ((96 ∷ 128 ∷ 32 ∷ []) ∷ []) ∷ [] }
    -- "P3 its pieces have Byte Count 256, 160, 32 and Lower Address 32, 0, 0."
    ∷ record {
      access = long_read;
      claims = counts_are 128 128 ((256 ∷ 160 ∷ 32 ∷ []) ∷ []) ∷ lowers_are 128 128 ((32 ∷ 0 ∷ 0 ∷ []) ∷ []) ∷ [];
    }
    -- "P4 a first piece of 32 bytes: legal at RCB 64, 33 at RCB 128."
    ∷ record { access = long_read; claims = piece_gives 64 8 256 32 0 ∷ piece_gives 128 8 256 32 33 ∷ [] }
    -- "P5 first 1010, L=1: total 3, off 1."
    ∷ record { access = reading 0x10020 1 0b1010 0b0000; claims = request_gives 0 ∷ total_is 3 ∷ off_is 1 ∷ [] }
    -- "P6 first 0000, L=1: total 1, nothing written."
    ∷ record {
      access = reading 0x10020 1 0b0000 0b0000;
      claims = request_gives 0 ∷ total_is 1 ∷ writes_nothing (1 ∷ 2 ∷ 3 ∷ 4 ∷ []) (5 ∷ 6 ∷ 7 ∷ 8 ∷ []) ∷ [];
    }
    -- "P7 first 1100, last 0011, L=2: total 4."
    ∷ record { access = reading 0x10020 2 0b1100 0b0011; claims = request_gives 0 ∷ total_is 4 ∷ [] }
    -- "P8 L=1024, A=2000h: Length and Byte Count fields both 0."
    ∷ record {
      access = reading 0x2000 1024 0b1111 0b1111;
      claims =
          request_gives 0
          ∷ total_is 4096
          ∷ length_field_is 0
          ∷ count_field_is 0
          ∷ request_is (0x00 ∷ 0 ∷ 0 ∷ 0 ∷ 0x01 ∷ 0 ∷ 5 ∷ 0xFF ∷ 0 ∷ 0 ∷ 0x20 ∷ 0 ∷ [])
          ∷ answer_is (0x4A ∷ 0 ∷ 0 ∷ 0 ∷ 0x02 ∷ 0 ∷ 0 ∷ 0 ∷ 0x01 ∷ 0 ∷ 5 ∷ 0 ∷ [])
          ∷ [];
    }
    -- "P9 A=FFCh: L=1 stands, L=2 gives 8."
    ∷ record {
      access = reading 0xFFC 1 0b1111 0b0000;
      claims = request_gives 0 ∷ request_is (0x00 ∷ 0 ∷ 0 ∷ 1 ∷ 0x01 ∷ 0 ∷ 5 ∷ 0x0F ∷ 0 ∷ 0 ∷ 0x0F ∷ 0xFC ∷ []) ∷ [];
    }
    ∷ record {
      access = reading 0xFFC 2 0b1111 0b1111;
      claims = request_gives 8 ∷ request_is (0x00 ∷ 0 ∷ 0 ∷ 2 ∷ 0x01 ∷ 0 ∷ 5 ∷ 0xFF ∷ 0 ∷ 0 ∷ 0x0F ∷ 0xFC ∷ []) ∷ [];
    }
    -- "P10 L=3, first 1010 gives 7."
    ∷ record {
      access = reading 0x10020 3 0b1010 0b1111;
      claims = request_gives 7 ∷ request_is (0x00 ∷ 0 ∷ 0 ∷ 3 ∷ 0x01 ∷ 0 ∷ 5 ∷ 0xFA ∷ 0 ∷ 1 ∷ 0 ∷ 0x20 ∷ []) ∷ [];
    }
    -- "P11 L=2, last 0000 gives 7."
    ∷ record {
      access = reading 0x10020 2 0b1111 0b0000;
      claims = request_gives 7 ∷ request_is (0x00 ∷ 0 ∷ 0 ∷ 2 ∷ 0x01 ∷ 0 ∷ 5 ∷ 0x0F ∷ 0 ∷ 1 ∷ 0 ∷ 0x20 ∷ []) ∷ [];
    }
    ∷ []

-- ---- what the claims mean

abbrev pub same_lists : List (List ℕ) → List (List ℕ) → Bool
same_lists [] [] = true
same_lists [] (ys ∷ yss) = false
same_lists (xs ∷ xss) [] = false
same_lists (xs ∷ xss) (ys ∷ yss) = same_list xs ys && same_lists xss yss

-- a number for each piece of a row: of the doublewords before it
abbrev pub each_from : (ℕ → ℕ) → ℕ → List ℕ → List ℕ
each_from f p [] = []
each_from f p (n ∷ ns) = f p ∷ each_from f (p + n) ns

-- the read with no traffic class or attributes, its window at the store's front
abbrev pub request_of : Access → ReadRequest
request_of a = record { access = a; traffic_class = 0; attributes = 0; start = 0 }

abbrev pub settings_with : ℕ → Settings
settings_with rcb = record { mps = 128; mrrs = 512; rcb = rcb }

-- of a table's requester 0100, the tag 5 and a completer 0200
abbrev pub header_with : ℕ → ℕ → CompletionHeader
header_with count lower = record {
  completer = 0x0200;
  status = 0b000;
  byte_count_modified = false;
  byte_count = count;
  tag = 5;
  lower_address = lower;
}

abbrev pub piece_with : ℕ → ℕ → ℕ → Piece
piece_with n count lower = record {
  requester = 0x0100;
  traffic_class = 0;
  attributes = 0;
  poisoned = false;
  with_data = true;
  length = n;
  header = header_with count lower;
}

abbrev pub request : Access → Packet
request a = request_packet 0x0100 5 (request_of a)

-- one completion with all of the answer
abbrev pub one_answer : Access → Packet
one_answer a = record {
  traffic_class = 0;
  attributes = 0;
  poisoned = false;
  has_digest = false;
  digest = 0;
  route = Id 0x0100;
  kind = CompletionData (header_with (byte_count_at a 0) (lower_address_at a 0)) a.length;
}

abbrev pub origin_with : ℕ → Origin
origin_with rcb = record { settings = settings_with rcb; requester = 0x0100 }

-- the number that take gives for a first piece, into a store as long as the window
abbrev pub piece_number : ℕ → Access → Piece → ℕ
piece_number rcb a c =
    first (piece_rows (origin_with rcb) (Some (record { request = request_of a; taken = 0 })) c (4 * a.length))

-- the Length field of a header, and the Byte Count field, as they stand
abbrev pub length_field : List ℕ → ℕ
length_field bytes = low (byte bytes 2) 2 * 256 + byte bytes 3

abbrev pub count_field : List ℕ → ℕ
count_field bytes = low (byte bytes 6) 4 * 256 + byte bytes 7

abbrev pub holds : Access → Claim → Bool
holds a (cuttings_are mps rcb rows) = same_lists (map (map (λ n. 4 * n)) (cuttings a mps rcb)) rows
holds a (counts_are mps rcb rows) = same_lists (map (each_from (byte_count_at a) 0) (cuttings a mps rcb)) rows
holds a (lowers_are mps rcb rows) = same_lists (map (each_from (lower_address_at a) 0) (cuttings a mps rcb)) rows
holds a (piece_gives rcb n count lower k) = eqb (piece_number rcb a (piece_with n count lower)) k
holds a (total_is n) = eqb (total a) n
holds a (off_is n) = eqb (off a) n
holds a (writes_nothing payload store) = same_list (stored (request_of a) 0 payload store) store
holds a (request_is bytes) = same_list (header_of (request a)) bytes
holds a (answer_is bytes) = same_list (header_of (one_answer a)) bytes
holds a (length_field_is n) = eqb (length_field (header_of (request a))) n
holds a (count_field_is n) = eqb (count_field (header_of (one_answer a))) n
holds a (request_gives k) =
    eqb (first (request_rows (request_of a))) k
    && (eqb (first (write_rows (settings_with 64) (request a) 0 12)) k
    && eqb (first (read_rows (settings_with 64) (header_of (request a)))) k)

abbrev pub claims_hold : Access → List Claim → Bool
claims_hold a [] = true
claims_hold a (c ∷ cs) = holds a c && claims_hold a cs

abbrev pub all_hold : List Edge → Bool
all_hold [] = true
all_hold (e ∷ es) = claims_hold e.access e.claims && all_hold es

-- the theorem
abbrev pub EdgesHold : Type 0
EdgesHold = all_hold edges ≡ true
