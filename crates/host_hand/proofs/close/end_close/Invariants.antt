use Rattle.std.proofs.Common.{◌≡◌}
use Rattle.host_intake.specs.{maker_of}
use Rattle.host_log.specs.{Continues}
use Rattle.host_turn.specs.{IsSameSeat, seen_by}
use Rattle.host_session.specs.{IsSeatIn, IsShared, SessionPlan, intake_plan}
use Rattle.host_hand.proofs.close.end_close.Given as goal

abbrev pub invariant-loop : goal.invariant-loop
invariant-loop g l = (goal.iterator-loop g).can_next l.iterator' × (goal.iterator-loop g).is_finite l.iterator' × ((p : SessionPlan) × IsShared p l.session × IsSeatIn p.intake (intake_plan p) l.me l.seat)
    × IsSameSeat l.fn.seat l.seat × Continues maker_of l.me (seen_by l.fn.seat) (seen_by l.seat) × (l.sender ≡ l.fn.sender)
