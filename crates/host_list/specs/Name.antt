-- The name of an entry, as it is printed.
use Rattle.std.specs.Prelude.{ℕ, ◌/◌, ◌%◌, ◌==◌, ◌&&◌, Bool, not, nat_le, if◌then◌else◌, List, []}
use Rattle.std.specs.Prelude.{◌∷◌, ◌++◌, flat_map, codes}
use Rattle.std.specs.List.{before_first}
use Rattle.host_text.specs.Words.{hex_byte}

-- a unit that is printed as its character: from space to ~, but neither a quote nor a backslash
abbrev pub is_plain : ℕ → Bool
is_plain u = nat_le 32 u && nat_le u 126 && not (u == 34) && not (u == 92)

-- its character, or four digits after \u
abbrev pub unit_text : ℕ → List ℕ
unit_text u = if is_plain u then u ∷ [] else codes "\\u" ++ hex_byte (u / 256) ++ hex_byte (u % 256)

-- the units of a name: those before the first that is zero
abbrev pub units_of : List ℕ → List ℕ
units_of name = before_first (λ u. u == 0) name

-- in quotes
unfoldable pub name_text : List ℕ → List ℕ
name_text name = codes "\"" ++ flat_map unit_text (units_of name) ++ codes "\""
