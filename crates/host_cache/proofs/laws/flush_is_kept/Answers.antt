use Rattle.host_cache.proofs.LawLemmas.{flush_is_kept_proof}
use Rattle.host_cache.proofs.laws.flush_is_kept.Goals as goal

pub returns : goal.returns
returns c = flush_is_kept_proof
