-- When a read comes back from its words as it was. No function states it: the laws of the words are of such reads.
use Rattle.std.specs.Prelude.{◌^◌, ◌<◌}
use Rattle.reads_rules.specs.declared.request.ReadRequest.{ReadRequest}

-- the fields that share a word fit their types; of address, start and doublewords taken nothing is asked
pub record Fits (q : ReadRequest) : Type 0 where
  pub length_fits : q.access.length < 2 ^ 32
  pub first_fits : q.access.first < 2 ^ 8
  pub last_fits : q.access.last < 2 ^ 8
  pub class_fits : q.traffic_class < 2 ^ 8
  pub attributes_fit : q.attributes < 2 ^ 8
