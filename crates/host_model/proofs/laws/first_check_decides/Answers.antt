use Rattle.host_model.proofs.Checks.{first_check_decides}
use Rattle.host_model.proofs.laws.first_check_decides.Goals as goal

pub returns : goal.returns
returns c = first_check_decides
