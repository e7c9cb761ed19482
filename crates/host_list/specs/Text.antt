-- The text of `list`.
use Rattle.std.specs.Prelude.{ℕ, Bool, true, false, List, [], ◌∷◌, ◌++◌, flat_map, decimal, codes}
use Rattle.std.specs.Int.{bytes_high_first}
use Rattle.host_gpt.specs.declared.entry.Entry.{Entry}
use Rattle.host_gpt.specs.declared.table.Table.{Table}
use Rattle.host_list.specs.Guid.{guid_text}
use Rattle.host_list.specs.Name.{name_text}
use Rattle.host_list.specs.Served.{serves}
use Rattle.host_part.specs.Served.{Layout, layout_of}
use Rattle.host_report.specs.Text.{end_line, image_line, table_line}
use Rattle.host_text.specs.Words.{hex, line}

abbrev pub disk_line : List ℕ → List ℕ
disk_line id = line (codes "disk" ∷ guid_text id ∷ [])

-- the three lines before the entries
abbrev pub list_head_text : ℕ → ℕ → Table → List ℕ
list_head_text blocks size table =
    image_line blocks size ++ table_line table.which ++ disk_line table.disk_id

-- of an entry that is served, and of another
abbrev pub mark : Bool → List ℕ
mark true = codes "part"
mark false = codes "bad"

-- 16 digits
unfoldable pub attributes_text : ℕ → List ℕ
attributes_text n = hex (bytes_high_first 8 n)

abbrev pub entry_words : Bool → Entry → List (List ℕ)
entry_words served e =
    mark served ∷ decimal e.number ∷ codes "first" ∷ decimal e.first ∷ codes "last" ∷ decimal e.last
    ∷ codes "type" ∷ guid_text e.type_id ∷ codes "id" ∷ guid_text e.id ∷ codes "attributes"
    ∷ attributes_text e.attributes ∷ codes "name" ∷ name_text e.name ∷ []

abbrev pub entry_line : Layout → Entry → List ℕ
entry_line layout e = line (entry_words (serves layout e) e)

-- the text of `list` of a table on an image of so many blocks of this size
abbrev pub list_text : ℕ → ℕ → Table → List ℕ
list_text blocks size table =
    list_head_text blocks size table
    ++ flat_map (entry_line (layout_of table blocks)) table.entries.items ++ end_line
