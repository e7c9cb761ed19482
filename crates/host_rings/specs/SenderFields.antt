-- What the fields of a `Sender` are, as contracts see them.
use Rattle.std.specs.Prelude.{◌≡◌, true, false}
use Rattle.std.specs.Arc.{arc_value}
use Rattle.crossbeam_queue.specs.Passes.{view, IsPassOf, ruled_capacity}
use Rattle.host_rings.specs.RequestEnds.{SenderState, sender_of}
use Rattle.host_rings.specs.declared.sender.Sender.TheInside.{Inside}

-- the queue's table names the ring
abbrev pub sender_state : Inside → SenderState
sender_state s =
    sender_of s.pass.table_id (ruled_capacity (arc_value s.queue)) (view s.pass).records
    (view s.pass).pushed (view s.pass).heard

-- a pass of this queue that only pushes
abbrev pub IsSender : Inside → Type 0
IsSender s =
    IsPassOf (arc_value s.queue) s.pass × ((view s.pass).pushes ≡ true)
    × ((view s.pass).pops ≡ false)
