-- Document 01: a read's window, the bytes of the store from its start on, four for each doubleword. A reader must
-- believe all of it: `place_rows` are 22 and 23, `shares_byte` is 24's, `holds_window` what 34 denies.
use Rattle.std.specs.Prelude.{ℕ, ◌+◌, ◌*◌, ◌%◌, Bool, ◌||◌, ◌&&◌, not, List, [], ◌∷◌, eqb, ltb, leb}
use Rattle.tlp.specs.Rows.{Row, row}
use Rattle.tlp.specs.declared.settings.Settings.{Settings}
use Rattle.reads_rules.specs.declared.request.ReadRequest.{ReadRequest}

-- "The store is at most 65,536 bytes."
abbrev pub store_limit : ℕ
store_limit = 65536

-- the place after the window's last byte
abbrev pub window_end : ReadRequest → ℕ
window_end q = q.start + 4 * q.access.length

-- 23: "store over 65,536 bytes, start not a multiple of 4, or start + 4 x length past the store"
unfoldable pub place_bad : ReadRequest → ℕ → Bool
place_bad q room = ltb store_limit room || (not (eqb (q.start % 4) 0) || ltb room (window_end q))

-- 22 and 23, with a store of room bytes: "22 4 x length over MRRS"
abbrev pub place_rows : Settings → ReadRequest → ℕ → List Row
place_rows settings q room =
    row 22 (ltb settings.mrrs (4 * q.access.length))
    ∷ row 23 (place_bad q room)
    ∷ []

-- 24: "window shares a byte with an open read's window"; windows that touch share none
unfoldable pub shares_byte : ReadRequest → ReadRequest → Bool
shares_byte q r = ltb q.start (window_end r) && ltb r.start (window_end q)

-- what 34 denies: "store over 65,536 or too short for the window"
unfoldable pub holds_window : ReadRequest → ℕ → Bool
holds_window q room = leb room store_limit && leb (window_end q) room
