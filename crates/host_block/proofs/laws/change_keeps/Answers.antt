use Rattle.host_block.proofs.KeptLemmas.{change_keeps_proof}
use Rattle.host_block.proofs.laws.change_keeps.Goals as goal

pub returns : goal.returns
returns c = change_keeps_proof
