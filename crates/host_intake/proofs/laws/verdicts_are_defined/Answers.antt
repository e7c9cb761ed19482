use Rattle.host_intake.proofs.Verdicts.{verdicts_are}
use Rattle.host_intake.proofs.laws.verdicts_are_defined.Goals as goal

pub returns : goal.returns
returns c part client number whole ts k numbered lent lends = verdicts_are part client number whole ts k numbered lent lends
