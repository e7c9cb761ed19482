use Rattle.intake_client.proofs.Flying.{flight_lands}
use Rattle.intake_client.proofs.Landings.{flies_landed}
use Rattle.intake_client.proofs.landing.land_flight.Goals as goal

pub land-requires-clause-flight : goal.land-requires-clause-flight
land-requires-clause-flight c = flight_lands c.args.hand c.args.intake.now c.args.flight c.vouch.ensures c.requires.flight

pub returns-clause-keeps : goal.returns-clause-keeps
returns-clause-keeps c = λ f other m. flies_landed c.args.hand c.args.flight.envelope.index c.args.intake.now c.land.new.intake c.land.ensures f other m
