-- Laws of the definitions.
use Rattle.std.specs.Prelude.{◌↔◌, IsTrue}
use Rattle.host_gpt.specs.declared.entry.Entry.{Entry}
use Rattle.host_list.specs.Served.{serves}
use Rattle.host_part.specs.Served.{IsServed, Layout}

-- the test tells the served entries
abbrev pub TestTellsServed : Type 0
TestTellsServed = (layout : Layout) (e : Entry) → IsTrue (serves layout e) ↔ IsServed layout e
