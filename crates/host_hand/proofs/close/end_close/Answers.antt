-- The close that was found has landed.
use Rattle.std.proofs.Common.{List, sym, subst}
use Rattle.host_intake.specs.{IntakeEntry, maker_of}
use Rattle.host_log.specs.{Continues}
use Rattle.host_turn.specs.{number, seen_by}
use Rattle.host_session.proofs.Shutting.{when_true}
use Rattle.host_hand.proofs.Landed.{close_landed}
use Rattle.host_hand.proofs.close.end_close.Goals as goal

pub returns-then-ended-clause-landed : goal.returns-then-ended-clause-landed
returns-then-ended-clause-landed g c =
    let i = c.loop.invariant in let e = c.enter-intake.ensures in let s = c.enter-intake.result in
    let later : Continues maker_of c.args.me (seen_by c.loop.seat) s.entries =
    subst (λ m. Continues maker_of m (seen_by c.loop.seat) s.entries) i.2.2.number_is (subst (λ (l : List IntakeEntry). Continues maker_of (number c.loop.seat) (seen_by c.loop.seat) l) (sym e.story) e.later) in
    close_landed c.args.me c.args.index c.args.front (seen_by c.args.seat.now) (seen_by c.loop.seat) s.entries c.end_in_turn-ended.new.intake.entries (seen_by c.leave.new.seat) c.args.sender.now c.loop.sender c.end_in_turn-ended.new.sender
    i.4 later c.leave.ensures.story i.5 (when_true _ _ c.end_in_turn-ended.result c.if-ended.true c.end_in_turn-ended.ensures.answer)
