use Rattle.host_list.proofs.ServedLemmas.{tells}
use Rattle.host_list.proofs.laws.test_tells_served.Goals as goal

pub returns : goal.returns
returns c = tells
