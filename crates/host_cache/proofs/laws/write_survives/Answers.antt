use Rattle.host_cache.proofs.LawLemmas.{write_survives_proof}
use Rattle.host_cache.proofs.laws.write_survives.Goals as goal

pub returns : goal.returns
returns c = write_survives_proof
