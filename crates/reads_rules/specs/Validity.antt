-- Document 01: 11 for "an open record whose fields open would refuse by 6, 7, 8, 22 or 23 (taking a store of 65,536)
-- or with p not below L". A reader must believe both: `valid_read`, and `owed_of`, what is still owed of a read.
use Rattle.std.specs.Prelude.{ℕ, ◌-◌, Bool, ◌&&◌, ◌++◌, eqb, ltb}
use Rattle.tlp.specs.Rows.{first}
use Rattle.tlp.specs.declared.settings.Settings.{Settings}
use Rattle.reads_rules.specs.Requests.{request_rows}
use Rattle.reads_rules.specs.Windows.{store_limit, place_rows}
use Rattle.reads_rules.specs.declared.read.Read.{Read}

-- the rows are open's own
unfoldable pub valid_read : Settings → Read → Bool
valid_read settings r =
    eqb (first (request_rows r.request ++ place_rows settings r.request store_limit)) 0
    && ltb r.taken r.request.access.length

-- "L - p"
unfoldable pub owed_of : Read → ℕ
owed_of r = r.request.access.length - r.taken
