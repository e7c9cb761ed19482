use Rattle.std.proofs.Common.{ap, refl}
use Rattle.host_intake.specs.{Turned, Aborted, IntakeState}
use Rattle.intake_client.proofs.Benches.{kept_pushed}
use Rattle.intake_client.proofs.bench.Bench.abort.Goals as goal

pub invariant_of-self : goal.invariant_of-self
invariant_of-self c =
    kept_pushed c.self.inside c.abort.new.self (Turned 1 Aborted) c.self.invariant refl refl
    (ap (λ (s : IntakeState). s.memory_seat) c.abort.ensures.entry) (ap (λ (s : IntakeState). s.cell_seat) c.abort.ensures.entry) (ap (λ (s : IntakeState). s.entries) c.abort.ensures.entry)
