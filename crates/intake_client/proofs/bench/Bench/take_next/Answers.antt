use Rattle.std.proofs.Common.{subst}
use Rattle.intake_client.specs.{BenchState, IsTaken}
use Rattle.intake_client.proofs.Benches.{beside, kept_taken}
use Rattle.intake_client.proofs.bench.Bench.take_next.Goals as goal

pub invariant_of-self : goal.invariant_of-self
invariant_of-self g c = kept_taken c.self.inside c.take.new.intake c.take.new.seat c.self.invariant c.take.ensures.plan c.take.ensures.seat c.take.ensures.keeps

pub returns-clause-taken : goal.returns-clause-taken
returns-clause-taken g c = subst (λ (s : BenchState). IsTaken 0 s.intake c.take.new.intake c.take.result) c.self.view_is c.take.ensures.taken

pub returns-clause-beside : goal.returns-clause-beside
returns-clause-beside g c = beside c.self.inside.intake c.take.new.intake c.self.inside.flight c.take.result c.take.ensures.taken c.self.invariant.flies
