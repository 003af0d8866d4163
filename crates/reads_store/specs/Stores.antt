-- Document 01: "The bytes of a piece go into that part of the store that starts at window start plus 4p", enabled bytes
-- alone. A reader must believe both: `part_at` and `stored`.
use Rattle.std.specs.Prelude.{ℕ, ◌+◌, ◌*◌, List, ◌++◌, take, drop}
use Rattle.byte_enables.specs.Enables.{enabled}
use Rattle.scans.specs.Merges.{merged}
use Rattle.reads_rules.specs.declared.request.ReadRequest.{ReadRequest}

-- where the part starts
abbrev pub part_at : ReadRequest → ℕ → ℕ
part_at q p = q.start + 4 * p

-- the store with a payload, whose first doubleword is the window's doubleword p, written into it: "enabled bytes are
-- written"
unfoldable pub stored : ReadRequest → ℕ → List ℕ → List ℕ → List ℕ
stored q p payload store =
    take (part_at q p) store ++ merged (enabled q.access) (4 * p) payload (drop (part_at q p) store)
