use Rattle.crash_law.proofs.Forced.{own_flushes_keep}
use Rattle.crash_law.proofs.laws.own_flushes_keep.Goals as goal

pub returns : goal.returns
returns c = own_flushes_keep
