-- What the hand found, within the turn.
use Rattle.std.proofs.Common.{length, refl, sym, ap, subst, ◌∙◌}
use Rattle.host_frames.specs.{pool_id}
use Rattle.host_group.specs.{cells_id}
use Rattle.host_intake.specs.{Passed, takings, is_shut, IntakeState, phase_in}
use Rattle.host_rings.specs.{SlipSenderState}
use Rattle.host_turn.specs.{seen_by}
use Rattle.host_hand.specs.{HasDoneBelow, IsNext}
use Rattle.host_hand.proofs.Jobbed.{phase_same}
use Rattle.host_hand.proofs.next.next_in_turn.Goals as goal

pub returns-then-pass_kept-clause-found : goal.returns-then-pass_kept-clause-found
returns-then-pass_kept-clause-found g c =
    let p = c.if-pass_kept.ensures.answer in
    (p, ap is_shut (ap phase_in p.entries ∙ phase_same c.args.intake.now.entries (Passed c.args.me) refl) ∙ sym c.if-is_closed.ensures)

pub returns-clause-found : goal.returns-clause-found
returns-clause-found g c =
    let a = c.args in let k = c.if-pass_kept.ensures.answer in let t = c.take_next in
    subst (λ (s : SlipSenderState). IsNext (cells_id a.cells.now) a.spec.now (pool_id a.pool.now) (length a.intake.now.taker.heard) a.me a.intake.now.entries t.new.intake.entries (seen_by t.new.memory_seat) s c.pass_kept.new.sender t.result) k.0
    (subst (λ (x : IntakeState). IsNext (cells_id a.cells.now) a.spec.now (pool_id a.pool.now) (length x.taker.heard) a.me x.entries t.new.intake.entries (seen_by t.new.memory_seat) c.pass_kept.new.sender c.pass_kept.new.sender t.result) k.1 t.ensures.found)

pub take_next-requires-clause-clean : goal.take_next-requires-clause-clean
take_next-requires-clause-clean g c =
    subst (λ (x : IntakeState). HasDoneBelow c.args.me (length (takings x.entries)) (seen_by c.args.memory_seat.now)) (sym c.if-pass_kept.ensures.answer.1) c.requires.clean
