-- What the fields of a `SlipSender` are, as contracts see them.
use Rattle.std.specs.Prelude.{◌≡◌}
use Rattle.std.specs.Arc.{arc_value}
use Rattle.crossbeam_queue.specs.Passes.{view, IsPassOf, ruled_capacity}
use Rattle.host_rings.specs.AnswerViews.{hand_view}
use Rattle.host_rings.specs.AnswerEnds.{SlipSenderState, slip_sender_of}
use Rattle.host_rings.specs.declared.slip_sender.SlipSender.TheInside.{Inside}

-- the queue's table names the ring
abbrev pub slip_sender_state : Inside → SlipSenderState
slip_sender_state s =
    slip_sender_of s.pass.table_id (ruled_capacity (arc_value s.queue)) (view s.pass).number
    (view s.pass).pushed

-- a pass of this queue that only pushes
abbrev pub IsSlipSender : Inside → Type 0
IsSlipSender s =
    IsPassOf (arc_value s.queue) s.pass
    × (view s.pass ≡ hand_view (view s.pass).number (view s.pass).pushed)
