use Rattle.std.proofs.Common.{◌≡◌, length, None, Some, sym, ap, subst, ◌∙◌}
use Rattle.host_record.specs.{Finish}
use Rattle.host_session.specs.{ClientState, ends_logged, phase_for, IsClientKept, HasTurned}
use Rattle.host_session.proofs.Finishing.{aborted_kept, draining_kept}
use Rattle.host_session.proofs.Logged.{end_fits}
use Rattle.host_session.proofs.client.ClientEnd.finish.Goals as goal

pub push-requires : goal.push-requires
push-requires g c =
    let a = c.self.inside in
    let running : a.finish ≡ None = ap (λ (s : ClientState). s.finish) c.self.view_is ∙ c.requires.open in
    end_fits a c.self.invariant (ap (λ f. length (ends_logged f a.closed)) running)

pub invariant_of-self : goal.invariant_of-self
invariant_of-self g c =
    let a = c.self.inside in
    let running : a.finish ≡ None = ap (λ (s : ClientState). s.finish) c.self.view_is ∙ c.requires.open in
    subst (λ (how : Finish). IsClientKept (record a { finish = Some how; intake_seat = c.turn_to.new.seat })) (sym c.in-Drain.is)
    (draining_kept a c.self.invariant running c.turn_to.new.seat c.turn_to.ensures.turn.seat.0.0 (subst (λ (how : Finish). HasTurned a.hands (phase_for how) a.intake_seat c.turn_to.new.seat) c.in-Drain.is c.turn_to.ensures))

pub invariant_of-self-in-Abort : goal.invariant_of-self-in-Abort
invariant_of-self-in-Abort g c =
    let a = c.self.inside in
    let running : a.finish ≡ None = ap (λ (s : ClientState). s.finish) c.self.view_is ∙ c.requires.open in
    subst (λ (how : Finish). IsClientKept (record a { log = c.push.new.self; finish = Some how; intake_seat = c.turn_to.new.seat })) (sym c.in-Abort.is)
    (aborted_kept a c.self.invariant running c.turn_to.new.seat c.turn_to.ensures.turn.seat.0.0 c.push.new.self c.push.ensures (subst (λ (how : Finish). HasTurned a.hands (phase_for how) a.intake_seat c.turn_to.new.seat) c.in-Abort.is c.turn_to.ensures))
