-- The text of a GUID.
use Rattle.std.specs.Prelude.{ℕ, List, ◌++◌, take, drop, reverse, codes}
use Rattle.host_text.specs.Words.{hex}

-- n bytes from byte i on
abbrev pub field : ℕ → ℕ → List ℕ → List ℕ
field i n id = take n (drop i id)

-- Digits in groups of 8, 4, 4, 4 and 12. The first three fields are stored with their low byte
-- first (UEFI 2.10, appendix A).
unfoldable pub guid_text : List ℕ → List ℕ
guid_text id =
    hex (reverse (field 0 4 id)) ++ codes "-" ++ hex (reverse (field 4 2 id)) ++ codes "-"
    ++ hex (reverse (field 6 2 id)) ++ codes "-" ++ hex (field 8 2 id) ++ codes "-"
    ++ hex (field 10 6 id)
