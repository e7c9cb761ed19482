use Rattle.host_cache.proofs.LawLemmas.{read_survives_proof}
use Rattle.host_cache.proofs.laws.read_survives.Goals as goal

pub returns : goal.returns
returns c = read_survives_proof
