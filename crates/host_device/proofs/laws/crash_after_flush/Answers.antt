use Rattle.host_device.proofs.HistoryLemmas.{crash_after_flush_proof}
use Rattle.host_device.proofs.laws.crash_after_flush.Goals as goal

pub returns : goal.returns
returns c = crash_after_flush_proof
