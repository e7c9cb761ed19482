use Rattle.std.proofs.Common.{subst, sym}
use Rattle.intake_client.specs.{BenchState, Flies, IsOtherThan}
use Rattle.intake_client.proofs.Benches.{kept_landed}
use Rattle.intake_client.proofs.bench.Bench.end_beside.Goals as goal

pub land_flight-requires-clause-flight : goal.land_flight-requires-clause-flight
land_flight-requires-clause-flight c = subst (λ (s : BenchState). Flies 0 s.intake c.args.flight) (sym c.self.view_is) c.requires.flies

pub invariant_of-self : goal.invariant_of-self
invariant_of-self c = kept_landed c.self.inside c.args.flight.envelope.index c.land_flight.new.intake c.self.invariant c.land_flight.ensures.landed
    (subst (λ (s : BenchState). IsOtherThan c.args.flight.envelope.index s.flight) (sym c.self.view_is) c.requires.other)
