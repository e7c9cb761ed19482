use Rattle.std.proofs.Common.{[], ◌∷◌, sym, ◌∙◌}
use Rattle.host_session.specs.{phase_for}
use Rattle.host_session.proofs.Shutting.{attempt_answer, ending_phase}
use Rattle.host_session.proofs.Turning.{entered_turns}
use Rattle.host_session.proofs.finish.try_to_close.Goals as goal

pub close_in_turn-attempt-requires-clause-phase : goal.close_in_turn-attempt-requires-clause-phase
close_in_turn-attempt-requires-clause-phase g c =
    let e = c.enter-intake.ensures in
    let t = c.requires.intake.1 in
    ending_phase t.0 _ (entered_turns c.args.client (phase_for t.0 ∷ []) c.args.intake_seat.now c.enter-intake.new.seat c.enter-intake.result t.1 e.seat.0 e.story e.later e.fixed_part c.vouch.ensures)

pub returns : goal.returns
returns g c =
    let e = c.enter-intake.ensures in
    let a = c.args in
    let r = c.close_in_turn-attempt in
    let t = c.requires.intake.1 in
    attempt_answer a.client a.wanted a.front a.intake_seat.now c.enter-intake.new.seat c.leave.new.seat c.enter-intake.result r.new.intake a.memory_seat.now r.new.memory_seat a.seat.now r.new.seat r.result.closed r.result.memory_front
    e.seat.0 e.story e.later
    (entered_turns a.client (phase_for t.0 ∷ []) a.intake_seat.now c.enter-intake.new.seat c.enter-intake.result t.1 e.seat.0 e.story e.later e.fixed_part c.vouch.ensures ∙ sym t.1.turned)
    c.leave.ensures.seat c.leave.ensures.story r.ensures.answer
