-- What the fields of a `Desk` are, as contracts see them.
use Rattle.std.specs.Prelude.{◌≡◌, ◌≤◌, length, vec_len, vec_capacity}
use Rattle.state_client.specs.Desk.{DeskState, desk_of}
use Rattle.state_client.specs.declared.rings.desk.Desk.TheInside.{Inside}

abbrev pub desk_state : Inside → DeskState
desk_state d = desk_of d.taker.ring d.taker.records d.taker.taken d.taker.heard

-- there is a row for each envelope taken, and room for all
abbrev pub IsDesk : Inside → Type 0
IsDesk d =
    (vec_len d.rows ≡ length d.taker.taken) × (length d.taker.taken ≤ d.taker.records)
    × (d.taker.records ≤ d.room) × (d.room ≤ vec_capacity d.rows)
