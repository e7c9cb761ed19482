use Rattle.std.proofs.Common.{◌≡◌, sym, subst}
use Rattle.host_intake.specs.{Closed, intake_state, IntakeState, phase_in}
use Rattle.host_intake.proofs.Ended.{none_out}
use Rattle.host_intake.proofs.intake.Intake.into_parts.Goals as goal

pub returns-clause-none_out : goal.returns-clause-none_out
returns-clause-none_out c = none_out (intake_state c.self.inside) c.self.invariant.0 (subst (λ (s : IntakeState). phase_in s.entries ≡ Closed) (sym c.self.view_is) c.requires)
