use Rattle.host_block.proofs.KeptLemmas.{crash_inside_call_proof}
use Rattle.host_block.proofs.laws.crash_inside_call.Goals as goal

pub returns : goal.returns
returns c = crash_inside_call_proof
