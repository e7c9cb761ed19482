-- What the field of a `Note` is, as contracts see it.
use Rattle.std.specs.Prelude.{◌≡◌, [], false}
use Rattle.crossbeam_queue.specs.Passes.{view}
use Rattle.host_rings.specs.RequestEnds.{NoteState}
use Rattle.host_rings.specs.declared.note.Note.TheInside.{Inside}

-- the queue's table names the ring
abbrev pub note_state : Inside → NoteState
note_state n = record { ring = n.pass.table_id; pushed = (view n.pass).heard }

-- a pass that holds no element, and may not push
abbrev pub IsNote : Inside → Type 0
IsNote n = (n.pass.me.1 ≡ []) × ((view n.pass).pushes ≡ false)
