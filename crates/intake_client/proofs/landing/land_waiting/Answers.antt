use Rattle.std.proofs.Common.{subst, sym}
use Rattle.intake_client.specs.{Flies}
use Rattle.intake_client.proofs.Waited.{waiting_keeps, waiting_lands, waiting_made}
use Rattle.intake_client.proofs.landing.land_waiting.Goals as goal

pub land_waited-requires-clause-flight : goal.land_waited-requires-clause-flight
land_waited-requires-clause-flight c = waiting_lands c.args.hand c.args.index c.args.intake.now c.waiting.new.self c.in-Some.waiting c.in-Some.ensures

pub returns-in-Some-clause-made : goal.returns-in-Some-clause-made
returns-in-Some-clause-made c = waiting_made c.args.hand c.args.index c.args.intake.now c.waiting.new.self c.land_waited.new.intake c.in-Some.waiting c.in-Some.ensures c.land_waited.ensures

pub returns-in-Some-clause-keeps : goal.returns-in-Some-clause-keeps
returns-in-Some-clause-keeps c = λ f m. waiting_keeps c.args.hand c.args.index c.args.intake.now c.waiting.new.self c.land_waited.new.intake c.in-Some.waiting c.in-Some.ensures c.land_waited.ensures f m

pub returns-in-None-clause-keeps : goal.returns-in-None-clause-keeps
returns-in-None-clause-keeps c = λ f m. subst (λ s. Flies c.args.hand s f) (sym c.in-None.ensures.1) m
