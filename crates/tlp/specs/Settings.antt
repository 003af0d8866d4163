-- Document 01: "MPS and MRRS each one of 128, 256, 512, 1024, 2048, 4096; RCB 64 or 128." All to be believed.
use Rattle.std.specs.Prelude.{ℕ, Bool, ◌&&◌, List, [], ◌∷◌}
use Rattle.bits.specs.Choice.{one_of}
use Rattle.tlp.specs.declared.settings.Settings.{Settings}

abbrev pub sizes : List ℕ
sizes = 128 ∷ 256 ∷ 512 ∷ 1024 ∷ 2048 ∷ 4096 ∷ []

abbrev pub boundaries : List ℕ
boundaries = 64 ∷ 128 ∷ []

-- whether every setting is in the list
unfoldable pub settings_listed : Settings → Bool
settings_listed settings =
    one_of sizes settings.mps
    && (one_of sizes settings.mrrs
    && one_of boundaries settings.rcb)
