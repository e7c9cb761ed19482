use Rattle.std.proofs.Common.{◌<◌, sym, subst, ◌∙◌}
use Rattle.host_intake.specs.{IsOpen, IsTakenOrStalled, load_in, IntakeState}
use Rattle.host_intake.proofs.NextAnswer.{answer_next, first_is}
use Rattle.host_intake.proofs.intake.Intake.admit_next.Goals as goal

pub returns-in-Some-clause-answer : goal.returns-in-Some-clause-answer
returns-in-Some-clause-answer g c = let s = c.args.self.now in
    let few = c.is_full.ensures.room c.if-is_full.false in
    let still : IsOpen s = (sym c.is_over.ensures ∙ c.if-is_over.false, subst (λ (o : IntakeState). load_in o.entries < 64) c.self.view_is few) in
    let h = c.hold_next.new.self in let e = c.in-Some.envelope in
    let first = first_is s h e c.hold_next.ensures.first c.in-Some.ensures.none in
    let told = subst (λ (o : IntakeState). IsTakenOrStalled c.args.hand o c.take_held.new.self c.take_held.new.seat e c.take_held.result) c.hold_next.ensures.same c.take_held.ensures.answer in
    answer_next c.args.hand s h.held h.taker c.take_held.new.self c.take_held.new.seat e still first c.take_held.result told
