use Rattle.std.proofs.Common.{refl, sym, ◌∙◌}
use Rattle.host_block.specs.{Read}
use Rattle.host_device.specs.{answer_alone, step_made}
use Rattle.host_turn.specs.{number, seen_by}
use Rattle.host_hand.proofs.StepMade.{step_grown}
use Rattle.host_hand.proofs.read.read_at.Goals as goal

pub make_read-answer-requires-clause-block : goal.make_read-answer-requires-clause-block
make_read-answer-requires-clause-block g c = let e = c.enter_past-device.ensures in c.requires.block _ (sym e.seat.0.3 ∙ e.fixed_part)

pub make_read-answer-requires-clause-piece : goal.make_read-answer-requires-clause-piece
make_read-answer-requires-clause-piece g c = let e = c.enter_past-device.ensures in c.requires.piece _ (sym e.seat.0.3 ∙ e.fixed_part)

pub returns-clause-step : goal.returns-clause-step
returns-clause-step g c =
    let e = c.enter_past-device.ensures in
    step_grown c.args.errand.now.hand (number c.args.seat.now) c.args.errand.now.device_front c.length-front.result (seen_by c.args.seat.now) (seen_by c.enter_past-device.new.seat) c.enter_past-device.result.steps.items c.make_read-answer.new.device.steps.items (seen_by c.leave.new.seat) (answer_alone c.make_read-answer.result)
    (step_made c.args.errand.now.hand c.args.errand.now.session c.args.errand.now.index c.args.k Read c.args.block c.make_read-answer.new.into)
    c.requires.seat.1 e.later e.story c.make_read-answer.ensures.entry c.leave.ensures.story (λ b. refl) e.past c.length-front.ensures
