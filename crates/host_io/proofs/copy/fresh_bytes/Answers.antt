use Rattle.host_io.proofs.CopyLemmas.{fresh_bytes_proof}
use Rattle.host_io.proofs.copy.fresh_bytes.Goals as goal

pub returns : goal.returns
returns c = fresh_bytes_proof
