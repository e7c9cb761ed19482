use Rattle.host_block.proofs.DiskLemmas.{picked_is_crash_proof}
use Rattle.host_block.proofs.laws.picked_is_crash.Goals as goal

pub returns : goal.returns
returns c = picked_is_crash_proof
