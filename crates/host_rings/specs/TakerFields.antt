-- What the fields of a `Taker` are, as contracts see them.
use Rattle.std.specs.Prelude.{◌≡◌, true, false}
use Rattle.std.specs.Arc.{arc_value}
use Rattle.crossbeam_queue.specs.Passes.{view, IsPassOf, ruled_capacity}
use Rattle.host_rings.specs.RequestEnds.{TakerState, taker_of}
use Rattle.host_rings.specs.declared.taker.Taker.TheInside.{Inside}

-- the queue's table names the ring
abbrev pub taker_state : Inside → TakerState
taker_state t =
    taker_of t.pass.table_id (ruled_capacity (arc_value t.queue)) (view t.pass).records
    (view t.pass).taken (view t.pass).heard

-- a pass of this queue that only pops
abbrev pub IsTaker : Inside → Type 0
IsTaker t =
    IsPassOf (arc_value t.queue) t.pass × ((view t.pass).pops ≡ true)
    × ((view t.pass).pushes ≡ false)
