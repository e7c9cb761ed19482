use Rattle.std.proofs.Common.{true}
use Rattle.host_start.specs.{image_in}
use Rattle.play_client.proofs.Beginning.{as_many}
use Rattle.play_client.proofs.begun.begin.Goals as goal

pub returns-in-Ok-clause-places : goal.returns-in-Ok-clause-places
returns-in-Ok-clause-places c = as_many true (image_in c.in-Ok.ready.copy) c.in-Ok.ready.start c.in-Ok.ensures.placed
