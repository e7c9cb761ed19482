use Rattle.std.proofs.Common.{ap, refl}
use Rattle.host_intake.specs.{Turned, Closed, IntakeState}
use Rattle.intake_client.proofs.Benches.{kept_pushed}
use Rattle.intake_client.proofs.bench.Bench.shut.Goals as goal

pub invariant_of-self : goal.invariant_of-self
invariant_of-self c =
    kept_pushed c.self.inside c.shut.new.self (Turned 1 Closed) c.self.invariant refl refl
    (ap (λ (s : IntakeState). s.memory_seat) c.shut.ensures.entry) (ap (λ (s : IntakeState). s.cell_seat) c.shut.ensures.entry) (ap (λ (s : IntakeState). s.entries) c.shut.ensures.entry)
