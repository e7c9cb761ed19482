use Rattle.std.proofs.Common.{◌<◌, length, sym, subst}
use Rattle.host_intake.specs.{intake_state, IsIntake, LedgerState, IntakeState, kept_slips}
use Rattle.host_intake.proofs.Keeping.{intake_passed}
use Rattle.host_intake.proofs.intake.Intake.passed.Goals as goal

pub invariant_of-self : goal.invariant_of-self
invariant_of-self c = let a = c.self.inside in let some = subst (λ (s : IntakeState). 0 < length (kept_slips s.entries)) (sym c.self.view_is) c.requires in (
  subst (λ (z : LedgerState). IsIntake (record (intake_state a) { room = z.room; keeps = z.keeps; entries = z.entries })) (sym c.pass.ensures) (intake_passed (intake_state a) c.self.invariant.0 c.args.hand some),
  c.self.invariant.1,
)
