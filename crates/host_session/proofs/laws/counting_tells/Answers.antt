use Rattle.host_session.proofs.Counting.{counting_tells}
use Rattle.host_session.proofs.laws.counting_tells.Goals as goal

pub returns : goal.returns
returns c = counting_tells
