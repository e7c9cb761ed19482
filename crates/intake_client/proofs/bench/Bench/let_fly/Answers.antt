use Rattle.std.proofs.Common.{Some, subst, sym}
use Rattle.intake_client.specs.{BenchState, Flies}
use Rattle.intake_client.proofs.Benches.{kept_flying}
use Rattle.intake_client.proofs.bench.Bench.let_fly.Goals as goal

pub invariant_of-self : goal.invariant_of-self
invariant_of-self c = kept_flying c.self.inside (Some c.args.flight) c.self.invariant (subst (λ (s : BenchState). Flies 0 s.intake c.args.flight) (sym c.self.view_is) c.requires)
