use Rattle.host_session.proofs.Requests.{counting_holds_before}
use Rattle.host_session.proofs.laws.counting_holds_before.Goals as goal

pub returns : goal.returns
returns c = counting_holds_before
