use Rattle.host_io.proofs.CopyLemmas.{joined_is_cut_proof}
use Rattle.host_io.proofs.copy.joined_is_cut.Goals as goal

pub returns : goal.returns
returns c = joined_is_cut_proof
