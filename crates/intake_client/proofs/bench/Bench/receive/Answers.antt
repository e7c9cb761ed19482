use Rattle.std.proofs.Common.{ap, refl}
use Rattle.host_intake.specs.{Passed, IntakeState}
use Rattle.intake_client.proofs.Benches.{kept_pushed}
use Rattle.intake_client.proofs.bench.Bench.receive.Goals as goal

pub invariant_of-self : goal.invariant_of-self
invariant_of-self c =
    kept_pushed c.self.inside c.passed.new.self (Passed 0) c.self.invariant refl refl
    (ap (λ (s : IntakeState). s.memory_seat) c.passed.ensures.entry) (ap (λ (s : IntakeState). s.cell_seat) c.passed.ensures.entry) (ap (λ (s : IntakeState). s.entries) c.passed.ensures.entry)
