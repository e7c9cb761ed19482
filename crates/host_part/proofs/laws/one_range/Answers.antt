use Rattle.host_part.proofs.RangeLemmas.{one_range}
use Rattle.host_part.proofs.laws.one_range.Goals as goal

pub returns : goal.returns
returns c = one_range
