-- The words of a table's text.
use Rattle.std.specs.Prelude.{◌≡◌, true, false, List, ℕ, [], ◌∷◌, codes}
use Rattle.host_list.specs.Guid.{guid_text}
use Rattle.host_list.specs.Name.{name_text, unit_text}
use Rattle.host_list.specs.Text.{attributes_text, mark}

-- sixteen bytes that differ
abbrev pub id : List ℕ
id = 0 ∷ 1 ∷ 2 ∷ 3 ∷ 4 ∷ 5 ∷ 6 ∷ 7 ∷ 8 ∷ 9 ∷ 10 ∷ 11 ∷ 12 ∷ 13 ∷ 14 ∷ 15 ∷ []

pub record TablesHaveTheirText : Type 0 where
  -- an entry that isn't served has a line too, with another mark
  pub marks : (mark true ≡ codes "part") × (mark false ≡ codes "bad")
  pub not_part : ¬ (mark false ≡ codes "part")
  -- the first three fields are stored with their low byte first
  pub guid : guid_text id ≡ codes "03020100-0504-0706-0809-0a0b0c0d0e0f"
  pub not_stored : ¬ (guid_text id ≡ codes "00010203-0405-0607-0809-0a0b0c0d0e0f")
  -- a name ends before its first zero, and a quote in it is printed by its number
  pub name : name_text (97 ∷ 34 ∷ 0 ∷ 98 ∷ []) ≡ codes "\"a\\u0022\""
  pub not_past : ¬ (name_text (97 ∷ 0 ∷ 98 ∷ []) ≡ name_text (97 ∷ 98 ∷ []))
  pub not_quote : ¬ (unit_text 34 ≡ 34 ∷ [])
  -- sixteen digits, and not in decimal
  pub attributes : attributes_text 16 ≡ codes "0000000000000010"
  pub not_decimal : ¬ (attributes_text 16 ≡ codes "16")
