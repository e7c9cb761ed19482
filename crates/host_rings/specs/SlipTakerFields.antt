-- What the fields of a `SlipTaker` are, as contracts see them.
use Rattle.std.specs.Prelude.{◌≡◌, []}
use Rattle.std.specs.Arc.{arc_value}
use Rattle.crossbeam_queue.specs.Passes.{view, IsPassOf, ruled_capacity}
use Rattle.host_rings.specs.AnswerViews.{reader_view}
use Rattle.host_rings.specs.AnswerEnds.{SlipTakerState, slip_taker_of}
use Rattle.host_rings.specs.declared.slip_taker.SlipTaker.TheInside.{Inside}

-- the queue's table names the ring
abbrev pub slip_taker_state : Inside → SlipTakerState
slip_taker_state t =
    slip_taker_of t.pass.table_id (ruled_capacity (arc_value t.queue)) (view t.pass).senders
    (view t.pass).taken (view t.pass).heard

-- a pass of this queue that only pops, and has closed no sender
abbrev pub IsSlipTaker : Inside → Type 0
IsSlipTaker t =
    IsPassOf (arc_value t.queue) t.pass
    × (view t.pass ≡ reader_view (view t.pass).senders [] (view t.pass).taken (view t.pass).heard)
