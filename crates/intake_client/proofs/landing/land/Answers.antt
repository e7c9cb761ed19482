use Rattle.std.proofs.Common.{subst}
use Rattle.intake_client.specs.{CanLand}
use Rattle.intake_client.proofs.Flying.{can_fly}
use Rattle.intake_client.proofs.Landings.{lone_owed}
use Rattle.intake_client.proofs.landing.land.Goals as goal

pub landed-requires-clause-answer : goal.landed-requires-clause-answer
landed-requires-clause-answer c =
    lone_owed c.args.hand c.args.intake.now c.args.envelope.now (subst (λ o. CanLand c.args.hand c.args.intake.now c.args.envelope.now o) c.in-None.is c.requires.flight)
    (record { outcome = c.args.outcome; device_front = 0; memory_front = 0 }) c.from_bytes-request.result c.lone-answer.result c.from_bytes-request.ensures.fields c.lone-answer.ensures

pub landed-requires-in-Some-clause-flight : goal.landed-requires-in-Some-clause-flight
landed-requires-in-Some-clause-flight c = can_fly c.args.hand c.args.intake.now c.args.envelope.now c.args.right c.requires.flight
