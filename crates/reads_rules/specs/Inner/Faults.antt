-- Parts of what no valid record has, as the functions of request.rt and validity.rt state them that are not public.
use Rattle.std.specs.Prelude.{◌*◌, ◌%◌, Bool, ◌||◌, not, eqb, leb, ltb}
use Rattle.byte_enables.specs.Enables.{enables_allowed}
use Rattle.tlp.specs.Contents.{crosses_page}
use Rattle.tlp.specs.declared.settings.Settings.{Settings}
use Rattle.reads_rules.specs.Windows.{store_limit, place_bad}
use Rattle.reads_rules.specs.declared.request.ReadRequest.{ReadRequest}
use Rattle.reads_rules.specs.declared.read.Read.{Read}

-- a number other than address and length exceeds its field
abbrev pub fields_over : ReadRequest → Bool
fields_over q =
    leb 8 q.traffic_class
    || (leb 8 q.attributes || (leb 16 q.access.first || leb 16 q.access.last))

-- the address is not a multiple of 4
abbrev pub unaligned : ReadRequest → Bool
unaligned q = not (eqb (q.access.address % 4) 0)

-- 8, 22, 23 and 7, with the longest store
abbrev pub reach_bad : Settings → ReadRequest → Bool
reach_bad settings q =
    crosses_page q.access
    || (ltb settings.mrrs (4 * q.access.length) || (place_bad q store_limit || not (enables_allowed q.access)))

-- Of the length nothing is asked: one that p is below and that stays within its page is 1 to 1024.
unfoldable pub read_faults : Settings → Read → Bool
read_faults settings r =
    fields_over r.request
    || (unaligned r.request || (leb r.request.access.length r.taken || reach_bad settings r.request))
