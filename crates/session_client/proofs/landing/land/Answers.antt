use Rattle.std.proofs.Common.{◌≡◌, ap, subst, ◌∙◌}
use Rattle.host_group.specs.{cells_id}
use Rattle.host_intake.specs.{IntakePlan, plan_of_intake, answer_owed}
use Rattle.host_record.specs.declared.request.Request.{Request}
use Rattle.host_turn.specs.{book_id, fixed_part, number, seen_by}
use Rattle.session_client.specs.{HaveSettled}
use Rattle.session_client.proofs.FixedParts.{plan_entered}
use Rattle.session_client.proofs.Ending.{flies, is_its_lander, none_waits, settled_answer, settled_right}
use Rattle.session_client.proofs.Tasks.{entered_to_do}
use Rattle.session_client.proofs.landing.land.Goals as goal

pub landed-requires-clause-flight : goal.landed-requires-clause-flight
landed-requires-clause-flight g c =
    let e = c.enter-intake.ensures in
    let d = entered_to_do (cells_id c.args.shared.now.cells) c.args.number (number c.args.hand.now.intake) (seen_by c.args.hand.now.intake) (seen_by c.enter-intake.new.seat) c.enter-intake.result.entries c.requires.hand.number_is e.later e.story c.args.task c.requires.task in
    flies (cells_id c.args.shared.now.cells) c.args.number c.enter-intake.result c.vouch.ensures c.args.task d

pub landed-requires-clause-waits : goal.landed-requires-clause-waits
landed-requires-clause-waits g c =
    let e = c.enter-intake.ensures in
    let d = entered_to_do (cells_id c.args.shared.now.cells) c.args.number (number c.args.hand.now.intake) (seen_by c.args.hand.now.intake) (seen_by c.enter-intake.new.seat) c.enter-intake.result.entries c.requires.hand.number_is e.later e.story c.args.task c.requires.task in
    none_waits (cells_id c.args.shared.now.cells) c.args.number c.enter-intake.result c.vouch.ensures c.args.task d
    (plan_entered (λ (p : IntakePlan). (p.memory ≡ book_id c.args.shared.now.memory) × (p.cells ≡ cells_id c.args.shared.now.cells)) (fixed_part c.args.hand.now.intake) (fixed_part c.enter-intake.new.seat) (plan_of_intake c.enter-intake.result) c.requires.hand.plan e.seat.0.3 e.fixed_part).1

pub landed-requires-clause-hand : goal.landed-requires-clause-hand
landed-requires-clause-hand g c =
    let e = c.enter-intake.ensures in
    let d = entered_to_do (cells_id c.args.shared.now.cells) c.args.number (number c.args.hand.now.intake) (seen_by c.args.hand.now.intake) (seen_by c.enter-intake.new.seat) c.enter-intake.result.entries c.requires.hand.number_is e.later e.story c.args.task c.requires.task in
    is_its_lander (cells_id c.args.shared.now.cells) c.args.number c.enter-intake.result c.vouch.ensures c.args.task d

pub landed-requires-clause-right : goal.landed-requires-clause-right
landed-requires-clause-right g c =
    let e = c.enter-intake.ensures in
    let d = entered_to_do (cells_id c.args.shared.now.cells) c.args.number (number c.args.hand.now.intake) (seen_by c.args.hand.now.intake) (seen_by c.enter-intake.new.seat) c.enter-intake.result.entries c.requires.hand.number_is e.later e.story c.args.task c.requires.task in
    settled_right (cells_id c.args.shared.now.cells) c.args.number c.enter-intake.result c.vouch.ensures c.args.task d _ c.settled-answer.result.1
    (subst (λ (r : Request). HaveSettled (cells_id c.args.shared.now.cells) r.group (record { outcome = c.args.task.outcome; device_front = c.args.task.envelope.device_front; memory_front = c.args.task.envelope.memory_front }) c.args.task.right c.settled-answer.result.1) c.from_bytes-request.ensures.fields c.settled-answer.ensures.right)

pub landed-requires-clause-answer : goal.landed-requires-clause-answer
landed-requires-clause-answer g c =
    let e = c.enter-intake.ensures in
    let d = entered_to_do (cells_id c.args.shared.now.cells) c.args.number (number c.args.hand.now.intake) (seen_by c.args.hand.now.intake) (seen_by c.enter-intake.new.seat) c.enter-intake.result.entries c.requires.hand.number_is e.later e.story c.args.task c.requires.task in
    settled_answer (cells_id c.args.shared.now.cells) c.args.number c.enter-intake.result c.vouch.ensures c.args.task d _ c.settled-answer.result.1 c.settled-answer.result.0
    (c.settled-answer.ensures.answer ∙ ap (λ (r : Request). answer_owed r c.args.task.envelope.index (record { outcome = c.args.task.outcome; device_front = c.args.task.envelope.device_front; memory_front = c.args.task.envelope.memory_front }) c.settled-answer.result.1) c.from_bytes-request.ensures.fields)
