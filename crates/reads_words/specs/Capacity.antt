-- How many tags a table has room for; the tags that may be opened are fewer. A reader must believe it.
use Rattle.std.specs.Prelude.{ℕ}

-- the tags that there is room for are those below
abbrev pub capacity : ℕ
capacity = 256
