use Rattle.std.proofs.Common.{◌≡◌, false, sym, subst, ◌∙◌}
use Rattle.host_intake.specs.{intake_state, IntakeState, is_over, phase_in}
use Rattle.host_intake.proofs.Popping.{intake_held, none_of}
use Rattle.host_intake.proofs.intake.Intake.hold_next.Goals as goal

pub invariant_of-self : goal.invariant_of-self
invariant_of-self g c = let a = c.self.inside in
    let goes = subst (λ (s : IntakeState). is_over (phase_in s.entries) ≡ false) (sym c.self.view_is) c.requires in
    let none = none_of a.held (sym c.is_some.ensures ∙ c.if-is_some.false) in
    (intake_held (intake_state a) c.self.invariant.0 none goes c.pop-self-inside.result c.pop-self-inside.new.self c.pop-self-inside.ensures.step, c.self.invariant.1)
