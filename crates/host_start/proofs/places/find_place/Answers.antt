use Rattle.host_start.proofs.PlaceLemmas.{not_served}
use Rattle.host_start.proofs.places.find_place.Goals as goal

pub returns-in-Err-clause-none : goal.returns-in-Err-clause-none
returns-in-Err-clause-none c = not_served c.args.parts.now c.args.part c.in-Err.field-0 c.requires.used c.in-Err.ensures.unused c.in-Err.ensures.bad
