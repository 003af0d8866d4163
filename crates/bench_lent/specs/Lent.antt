-- What the calls of the benchmark for C are lent and answer, in the words of the table's calls. Nothing of the
-- product is promised by it.
use Rattle.std.specs.Prelude.{ℕ, ◌%◌, ◌^◌, List, get_or}
use Rattle.tlp.specs.Refusals.{number}
use Rattle.reads_rules.specs.declared.request.ReadRequest.{ReadRequest}
use Rattle.reads_rules.specs.declared.origin.Origin.{Origin}
use Rattle.reads_words.specs.Words.{read_of}
use Rattle.reads.specs.Tables.{table_of}
use Rattle.reads.specs.declared.table.Table.{Table}
use Rattle.reads_answers.specs.declared.TakeAnswer.{TakeAnswer}
use Rattle.reads_answers.specs.declared.TakeAnswer.TheVariants.{More, Done, Failed, Poisoned, Unread, Refused}

-- MPS, MRRS, RCB and, in its low 16 bits, the requester ID
unfoldable pub origin_in : List ℕ → Origin
origin_in from = record {
  settings = record { mps = get_or from 0 0; mrrs = get_or from 1 0; rcb = get_or from 2 0 };
  requester = get_or from 3 0 % 2 ^ 16;
}

-- the table that the caller's memory makes
abbrev pub table_in : List ℕ → List ℕ → List ℕ → Table
table_in from opened words = table_of (origin_in from) opened words

-- a request in the form of a tag's words; doublewords taken are not looked at
unfoldable pub request_in : List ℕ → ReadRequest
request_in ws = (read_of (get_or ws 0 0) (get_or ws 1 0) (get_or ws 2 0) (get_or ws 3 0)).request

-- 0 is Done alone: a turn takes its read whole
abbrev pub done_number : TakeAnswer → ℕ
done_number More = 255
done_number Done = 0
done_number (Failed status) = 255
done_number Poisoned = 255
done_number (Unread r) = number r
done_number (Refused r) = number r
