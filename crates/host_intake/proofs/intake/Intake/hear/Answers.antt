use Rattle.std.proofs.Common.{sym, subst}
use Rattle.host_rings.specs.{TakerState}
use Rattle.host_intake.specs.{intake_state, IsIntake}
use Rattle.host_intake.proofs.Popping.{intake_heard}
use Rattle.host_intake.proofs.intake.Intake.hear.Goals as goal

pub invariant_of-self : goal.invariant_of-self
invariant_of-self c = (
  subst (λ (t : TakerState). IsIntake (record (intake_state c.self.inside) { taker = t })) (sym c.hear.ensures) (intake_heard (intake_state c.self.inside) c.self.invariant.0 c.args.note.pushed),
  c.self.invariant.1,
)
