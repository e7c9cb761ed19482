use Rattle.host_worker.proofs.Histories.{content_is_of_own}
use Rattle.host_worker.proofs.laws.content_is_of_own_entries.Goals as goal

pub returns : goal.returns
returns c = content_is_of_own
