-- For the contracts of shared.rt: what is looked at alike in the record of every kind (docs/RECORD.md).
use Rattle.std.specs.Prelude.{ℕ, ◌^◌, Bool, true, ◌&&◌, ◌||◌, not, List, eqb, leb, ltb}
use Rattle.bits.specs.Choice.{pick}
use Rattle.bits.specs.Word.{byte, word}
use Rattle.tlp_record.specs.Places.{traffic_class_place, attributes_place, poisoned_place, digest_present_place, route_place, route_value_place, digest_place}

-- poisoned and digest present: 0 or 1
abbrev pub flags_kept : ℕ → ℕ → Bool
flags_kept poisoned digest = leb poisoned 1 && leb digest 1

-- the route's value: the address, or the ID in its low 16 bits; 0 for an implicit route
abbrev pub route_kept : ℕ → ℕ → Bool
route_kept route value = pick (eqb route 0) true (pick (eqb route 1) (ltb value (2 ^ 16)) (leb route 5 && eqb value 0))

-- traffic class, attributes and digest: those that a packet of the record must not hold (common_bad)
abbrev pub common_over : List ℕ → Bool
common_over fields =
    leb 8 (byte fields traffic_class_place)
    || (leb 8 (byte fields attributes_place)
    || (not (eqb (byte fields digest_present_place) 1) && not (eqb (word 4 fields digest_place) 0)))

unfoldable pub shared_fits : List ℕ → Bool
shared_fits fields =
    flags_kept (byte fields poisoned_place) (byte fields digest_present_place)
    && (route_kept (byte fields route_place) (word 8 fields route_value_place) && not (common_over fields))
