-- Whether an entry is served, as a test.
use Rattle.std.specs.Prelude.{◌==◌, ◌&&◌, ◌||◌, Bool, not, nat_le, nat_lt, min, max}
use Rattle.std.specs.List.{list_all}
use Rattle.host_gpt.specs.declared.entry.Entry.{Entry}
use Rattle.host_part.specs.Served.{Layout}

abbrev pub shares : Entry → Entry → Bool
shares e f = nat_le (max e.first f.first) (min e.last f.last)

unfoldable pub serves : Layout → Entry → Bool
serves layout e =
    nat_le layout.first_usable e.first
    && (nat_le e.first e.last
    && (nat_le e.last layout.last_usable
    && (nat_lt layout.last_usable layout.blocks
    && list_all (λ f. f.number == e.number || not (shares e f)) layout.entries)))
