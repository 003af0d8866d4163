-- Document 01, Captures: "Line one: `mps= mrrs= rcb= req=`". "Decimals have no leading zeros"; "hex is lower case, req
-- four digits". What a reader must believe: header_line; or, of which Grammar says that it is the same, header_text
-- there.
use Rattle.std.specs.Prelude.{ℕ, ◌&&◌, List, ◌==◌, length, Option, Some, None, option_and_then}
use Rattle.bits.specs.Choice.{pick}
use Rattle.text.specs.Fields.{decimal_after, hex_after}
use Rattle.text.specs.declared.fields.Field.{Field}
use Rattle.tlp.specs.Settings.{settings_listed}
use Rattle.tlp.specs.declared.settings.Settings.{Settings}
use Rattle.capture.specs.Keys.{mps_key, mrrs_key, rcb_key, requester_key}
use Rattle.capture.specs.declared.header.Header.{Header}

-- "at is up to 4294967295"; the other decimals have the same bound, which no listed setting and no line's byte count
-- reaches
abbrev pub most32 : ℕ
most32 = 4294967295

-- nothing follows the last field, and the settings are listed
abbrev pub header_of : List ℕ → Settings → Field → Option Header
header_of text settings req =
    pick (req.next == length text && settings_listed settings) (Some (record { settings = settings; requester = req.value })) None

-- what follows each field; "req four digits"
abbrev pub after_rcb : List ℕ → Field → Field → Field → Option Header
after_rcb text mps mrrs rcb =
    option_and_then (header_of text (record { mps = mps.value; mrrs = mrrs.value; rcb = rcb.value }))
    (hex_after text rcb.next requester_key 4)

abbrev pub after_mrrs : List ℕ → Field → Field → Option Header
after_mrrs text mps mrrs = option_and_then (after_rcb text mps mrrs) (decimal_after text mrrs.next rcb_key most32)

abbrev pub after_mps : List ℕ → Field → Option Header
after_mps text mps = option_and_then (after_mrrs text mps) (decimal_after text mps.next mrrs_key most32)

unfoldable pub header_line : List ℕ → Option Header
header_line text = option_and_then (after_mps text) (decimal_after text 0 mps_key most32)
