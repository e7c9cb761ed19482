use Rattle.intake_client.proofs.Benches.{kept_on}
use Rattle.intake_client.proofs.bench.Bench.end_waiting.Goals as goal

pub invariant_of-self : goal.invariant_of-self
invariant_of-self c = kept_on c.self.inside c.land_waiting.new.intake c.self.invariant c.land_waiting.ensures.made.0 c.land_waiting.ensures.made.1 c.land_waiting.ensures.keeps
