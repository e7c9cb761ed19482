use Rattle.host_intake.proofs.Flying.{own_flies}
use Rattle.host_intake.proofs.laws.own_records_fly.Goals as goal

pub returns : goal.returns
returns c = own_flies
