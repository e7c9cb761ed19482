use Rattle.host_cache.proofs.LawLemmas.{flush_survives_proof}
use Rattle.host_cache.proofs.laws.flush_survives.Goals as goal

pub returns : goal.returns
returns c = flush_survives_proof
