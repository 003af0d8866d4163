-- Document 01: "A tag's record is .. p and what open got", as words of 64 bits, four for each tag. A reader must
-- believe that `read_at`, `put_read` and `clear_read` are of a tag's own words.
use Rattle.std.specs.Prelude.{ℕ, ◌+◌, ◌*◌, ◌/◌, ◌%◌, ◌^◌, List, ltb, get_or, set}
use Rattle.bits.specs.Choice.{pick}
use Rattle.reads_rules.specs.declared.read.Read.{Read}
use Rattle.reads_words.specs.Capacity.{capacity}

-- length in the low half, doublewords taken in the high one
abbrev pub sizes_of : ℕ → ℕ → ℕ
sizes_of length taken = taken * 2 ^ 32 + length

-- a byte each, the first enables lowest
abbrev pub marks_of : ℕ → ℕ → ℕ → ℕ → ℕ
marks_of first last traffic_class attributes =
    ((attributes * 2 ^ 8 + traffic_class) * 2 ^ 8 + last) * 2 ^ 8 + first

-- a read from its words
unfoldable pub read_of : ℕ → ℕ → ℕ → ℕ → Read
read_of address start sizes marks = record {
  request = record {
    access = record {
      address = address;
      length = sizes % 2 ^ 32;
      first = marks % 2 ^ 8;
      last = marks / 2 ^ 8 % 2 ^ 8;
    };
    traffic_class = marks / 2 ^ 16 % 2 ^ 8;
    attributes = marks / 2 ^ 24 % 2 ^ 8;
    start = start;
  };
  taken = sizes / 2 ^ 32;
}

-- the read of a tag; one that there is no room for has a read of zeros
unfoldable pub read_at : List ℕ → ℕ → Read
read_at ws tag =
    pick (ltb tag capacity)
    (read_of (get_or ws (4 * tag) 0) (get_or ws (4 * tag + 1) 0) (get_or ws (4 * tag + 2) 0) (get_or ws (4 * tag + 3) 0))
    (read_of 0 0 0 0)

-- the four words of a tag, and none of a tag that there is no room for
unfoldable pub put_words : List ℕ → ℕ → ℕ → ℕ → ℕ → ℕ → List ℕ
put_words ws tag address start sizes marks =
    pick (ltb tag capacity)
    (set (set (set (set ws (4 * tag) address) (4 * tag + 1) start) (4 * tag + 2) sizes) (4 * tag + 3) marks)
    ws

-- a read laid over the words of a tag
unfoldable pub put_read : List ℕ → ℕ → Read → List ℕ
put_read ws tag r =
    put_words ws tag r.request.access.address r.request.start (sizes_of r.request.access.length r.taken)
    (marks_of r.request.access.first r.request.access.last r.request.traffic_class
    r.request.attributes)

-- the words of a free tag
unfoldable pub clear_read : List ℕ → ℕ → List ℕ
clear_read ws tag = put_words ws tag 0 0 0 0
